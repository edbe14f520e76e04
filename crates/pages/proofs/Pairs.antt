-- A pair LDA, CMP counts where the CMP is met. An opcode stands inside the image alone, so that there the map's test and the list of its members agree.
use Rattle.std.proofs.Common.{◌≡◌, ℕ, suc, ◌+◌, ◌-◌, ◌%◌, ◌<◌, Bool, true, false, cond, ◌&&◌, List, [], ◌∷◌, length, nat_lt, Some, None, sym, refl, arith, ltb-true}
use Rattle.std.specs.Prelude.{slice_index, ◌≤◌}
use Rattle.lists.specs.Lists.{elem}
use Rattle.lists.proofs.Scan.{scan_only, scan_all}
use Rattle.lists.proofs.Sets.{elem_mem, mem_elem}
use Rattle.lists.proofs.Tests.{pass, fail, passed, clash}
use Rattle.image.specs.Image.{Lies}
use Rattle.address_set.specs.Map.{has, members_in}
use Rattle.resolver.specs.declared.Seen.{Seen}
use Rattle.resolver.specs.Resolve.{is_value, argument_at}
use Rattle.pages.specs.Pages.{is_op, compared_at, limit_over}

and_false : (b : Bool) → (b && false) ≡ false
and_false true = refl
and_false false = refl

module _ (image : List ℕ) (load : ℕ) where
  -- where two tests tell the same of each pair, they give the same limit
  limit_same : (met met' : ℕ → Bool) → ((a : ℕ) → compared_at image load met a ≡ compared_at image load met' a) → (z : ℕ) (l : List ℕ) (s : Seen)
      → limit_over image load met z l s ≡ limit_over image load met' z l s
  unfolding limit_over
  limit_same met met' same z [] s = refl
  limit_same met met' same z (a ∷ l) s = rw (same a) (limit_same met met' same z l _)

  -- an opcode stands at an address inside
  op_inside : (op : ℕ) {last a : ℕ} → Lies image load last → a < 65536 → is_op image load op a ≡ true → (load ≤ a) × (a ≤ last)
  op_inside op {last} {a} lies h told = by (nat_lt ((a + 65536 - load) % 65536) (length image)) refl told
    where
      by : (b : Bool) → nat_lt ((a + 65536 - load) % 65536) (length image) ≡ b
          → is_value (cond b (Some (slice_index image ((a + 65536 - load) % 65536))) None) op ≡ true → (load ≤ a) × (a ≤ last)
      by true e t =
          let q : (a + 65536 - load) % 65536 < length image = ltb-true _ _ e in
          (omega (arith, lies.ends, lies.top), omega (arith, lies.ends, lies.top))
      by false e t = absurd cc

  module _ (map : List ℕ) {last : ℕ} (lies : Lies image load last) where
    -- between load and last the map's test is that of the list
    listed : (a : ℕ) → load ≤ a → a ≤ last → has map a ≡ elem a (members_in load last map)
    listed a p q = by (has map a) refl
      where
        by : (b : Bool) → has map a ≡ b → b ≡ elem a (members_in load last map)
        by true e = sym (pass _ (mem_elem (scan_all (has map) load (suc last - load) (record { low = p; high = omega arith; test = passed e }))))
        by false e = sym (fail _ (λ t. clash (pass _ (scan_only (has map) load (suc last - load) (elem_mem a _ t)).test) e))

    same_pairs : (a : ℕ) → compared_at image load (has map) a ≡ compared_at image load (λ b. elem b (members_in load last map)) a
    same_pairs a = by (is_op image load 0xC9 ((a + 2) % 65536)) (op_inside 0xC9 lies (omega arith))
      where
        by : (b : Bool) → (b ≡ true → (load ≤ (a + 2) % 65536) × ((a + 2) % 65536 ≤ last))
            → cond (has map ((a + 2) % 65536) && b) (argument_at image load ((a + 2) % 65536)) None
            ≡ cond (elem ((a + 2) % 65536) (members_in load last map) && b) (argument_at image load ((a + 2) % 65536)) None
        by true inside = let w = inside refl in rw (listed ((a + 2) % 65536) w.0 w.1)
        by false inside = rw (and_false (has map ((a + 2) % 65536)), and_false (elem ((a + 2) % 65536) (members_in load last map)))

    pub limit_listed : (z : ℕ) (l : List ℕ) (s : Seen)
        → limit_over image load (has map) z l s ≡ limit_over image load (λ a. elem a (members_in load last map)) z l s
    limit_listed = limit_same (has map) _ same_pairs
