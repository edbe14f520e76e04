-- The extent that is computed is the range of what is named. Each step of the pass takes in the ends of one run, and with them all that the run bounds;
-- so what is taken in grows by what the step names, the present extent covers it, and an end that has moved stands on an address that is named.
use mathlib.Core.Path.{◌≡◌, refl, ◌∙◌}
use mathlib.Core.Bool.{Bool, true, false, cond}
use mathlib.Core.List.Memᴰ.{cases_cons as cases}
use mathlib.Core.List.Memᴰ.{head as here}
use mathlib.Core.List.Memᴰ.{not-nil}
use mathlib.Core.List.Memᴰ.{tail as there}
use mathlib.Core.List.{List, [], ◌∷◌}
use mathlib.Core.Logic.{◌↔◌, ◌⊎◌, inl, inr, ⊎_elim}
use Prim.Native.Nat.{ℕ, suc, ◌+◌, ◌-◌, ◌≤◌, ◌<◌, min, max}
use native.Mathlib.Decide.{dec_le}
use native.Mathlib.Omega.{arith}
use lib.Dec.{T}
use Rattle.std.proofs.Common.{Option, Some, None}
use Rattle.lists.specs.Lists.{◌∈◌}
use Rattle.lists.proofs.Tests.{pass, clash}
use Rattle.image.specs.Image.{inside}
use Rattle.image.proofs.Inside.{inside_bounds}
use Rattle.site.specs.declared.Reading.{Reading}
use Rattle.site.specs.declared.Run.{Run}
use Rattle.site.specs.declared.Site.{Site}
use Rattle.site.specs.Named.{names, run_of}
use Rattle.site.proofs.Covering.{Bounding, site_bounds, names_inside}
use Rattle.extent.specs.declared.Extent.{Extent}
use Rattle.extent.specs.Named.{Named, by_entry, by_byte, by_operand, Range}
use Rattle.extent.specs.Extent.{widen_run, widen_site, nothing, is_skipped, over_entries, over_sites, settled, extent_of}

-- ── an end ──
min_of : (m n : ℕ) → Dec (m ≤ n) → (min m n ≡ m) ⊎ (min m n ≡ n)
min_of m n (yes l) = inl (omega arith)
min_of m n (no l) = inr (omega arith)

max_of : (m n : ℕ) → Dec (m ≤ n) → (max m n ≡ m) ⊎ (max m n ≡ n)
max_of m n (yes l) = inr (omega arith)
max_of m n (no l) = inl (omega arith)

-- it stays at m, or moves to n
moved : (N M : ℕ → Type 0) {first m n end : ℕ} → (end ≡ m) ⊎ (end ≡ n) → (m ≡ first) ⊎ N m → M n → (end ≡ first) ⊎ (N end ⊎ M end)
moved N M (inl e) (inl s) k = inl (e ∙ s)
moved N M (inl e) (inr h) k = inr (inl (rw e h))
moved N M (inr e) s k = inr (inr (rw e k))

-- ── a list ──
-- some a of l has M a x
abbrev OneOf : (M : ℕ → ℕ → Type 0) (l : List ℕ) → ℕ → Type 0
OneOf M l x = (a : ℕ) × (a ∈ l) × M a x

one_of_nil : (M : ℕ → ℕ → Type 0) (x : ℕ) → ¬ OneOf M [] x
one_of_nil M x s = not-nil s.1

one_of_cons : (M : ℕ → ℕ → Type 0) (a : ℕ) (l : List ℕ) (x : ℕ) → (M a x ⊎ OneOf M l x) ↔ OneOf M (a ∷ l) x
one_of_cons M a l x = (
  ⊎_elim (λ m. (a, here refl, m)) (λ s. (s.0, there s.1, s.2)),
  λ s. ⊎_elim (λ e. inl (rw e at s.2)) (λ k. inr (s.0, k, s.2)) (cases s.1),
)

module _ (load last : ℕ) where
  -- ── what an extent covers ──
  -- e covers N, and an end that has moved is in N
  record Hull (N : ℕ → Type 0) (e : Extent) : Type 0 where
    covers : (x : ℕ) → N x → (e.low ≤ x) × (x ≤ e.high)
    low_at : (e.low ≡ last) ⊎ N e.low
    high_at : (e.high ≡ load) ⊎ N e.high

  -- the step f takes in M
  record Widens (f : Extent → Extent) (M : ℕ → Type 0) : Type 1 where
    widens : {N : ℕ → Type 0} {e : Extent} → Hull N e → Hull (λ x. N x ⊎ M x) (f e)

  hull_same : {N N' : ℕ → Type 0} {e : Extent} → ((x : ℕ) → N x ↔ N' x) → Hull N e → Hull N' e
  hull_same {e = e} same h =
      record {
        covers = λ x n. h.covers x ((same x).1 n);
        low_at = ⊎_elim inl (λ n. inr ((same e.low).0 n)) h.low_at;
        high_at = ⊎_elim inl (λ n. inr ((same e.high).0 n)) h.high_at;
      }

  -- if N is inside and not empty, the ends are in N: one that has not moved is an end of the image, and only an address there is covered
  hull_range : {N : ℕ → Type 0} {e : Extent} {y : ℕ} → Hull N e → ((x : ℕ) → N x → (load ≤ x) × (x ≤ last)) → N y → Range N (settled e).low (settled e).high
  hull_range {N} {e} {y} h within n =
      let c = h.covers y n in
      let w = within y n in
      let low : min e.low e.high ≡ e.low = omega arith in
      record {
        low_in = rw low (⊎_elim (λ s. let at_y : e.low ≡ y = omega arith in rw at_y n) (λ m. m) h.low_at);
        high_in = ⊎_elim (λ s. let at_y : e.high ≡ y = omega arith in rw at_y n) (λ m. m) h.high_at;
        covers = λ x m. omega (arith, h.covers x m);
      }

  -- if N is empty, no end has moved
  hull_empty : {N : ℕ → Type 0} {e : Extent} → Hull N e → ((x : ℕ) → ¬ N x) → load ≤ last → ((settled e).low ≡ load) × ((settled e).high ≡ load)
  hull_empty {e = e} h none p =
      let low : e.low ≡ last = ⊎_elim (λ s. s) (λ n. absurd (none e.low n)) h.low_at in
      let high : e.high ≡ load = ⊎_elim (λ s. s) (λ n. absurd (none e.high n)) h.high_at in
      omega arith

  -- ── steps ──
  widens_same : {f : Extent → Extent} {M M' : ℕ → Type 0} → ((x : ℕ) → M x ↔ M' x) → Widens f M → Widens f M'
  widens_same same w = record { widens = λ h. hull_same (λ x. (⊎_elim inl (λ m. inr ((same x).0 m)), ⊎_elim inl (λ m. inr ((same x).1 m)))) (w.widens h) }

  widens_nothing : {M : ℕ → Type 0} → ((x : ℕ) → ¬ M x) → Widens (λ e. e) M
  widens_nothing none = record { widens = λ h. hull_same (λ x. (inl, ⊎_elim (λ n. n) (λ m. absurd (none x m)))) h }

  widens_then : {f g : Extent → Extent} {M K : ℕ → Type 0} → Widens f M → Widens g K → Widens (λ e. g (f e)) (λ x. M x ⊎ K x)
  widens_then v w =
      record {
        widens = λ h.
            hull_same
            (λ x. (⊎_elim (⊎_elim inl (λ m. inr (inl m))) (λ k. inr (inr k)), ⊎_elim (λ n. inl (inl n)) (⊎_elim (λ m. inl (inr m)) inr)))
            (w.widens (v.widens h));
      }

  widens_if : {f : Extent → Extent} {M : ℕ → Type 0} (b : Bool) → (T b → Widens f M) → Widens (λ e. cond b (f e) e) (λ x. T b × M x)
  widens_if true w = widens_same (λ x. (λ m. (tt, m), λ k. k.1)) (w tt)
  widens_if false w = widens_nothing (λ x k. k.0)

  widens_unless : {f : Extent → Extent} {M : ℕ → Type 0} (b : Bool) → Widens f M → Widens (λ e. cond b e (f e)) (λ x. (b ≡ false) × M x)
  widens_unless true w = widens_nothing (λ x k. clash refl k.0)
  widens_unless false w = widens_same (λ x. (λ m. (refl, m), λ k. k.1)) w

  abbrev one : (a b : ℕ) → Option Run
  one a b = Some (record { low = a; high = b })

  widens_run : {M : ℕ → Type 0} (run : Option Run) → Bounding M run → Widens (λ e. widen_run e run) M
  widens_run None none = widens_nothing none
  widens_run {M} (Some r) bounds = record { widens = widened }
    where
      widened : {N : ℕ → Type 0} {e : Extent} → Hull N e → Hull (λ x. N x ⊎ M x) (widen_run e (Some r))
      widened {N} {e} h =
          record {
            covers = λ x. ⊎_elim (λ n. omega (arith, h.covers x n)) (λ m. omega (arith, bounds.2 x m));
            low_at = moved N M (min_of e.low r.low (dec_le e.low r.low)) h.low_at bounds.0;
            high_at = moved N M (max_of e.high r.high (dec_le e.high r.high)) h.high_at bounds.1;
          }

  -- ── the passes ──
  -- an entry counts if it is inside
  abbrev Entry : (a x : ℕ) → Type 0
  Entry a x = T (inside load last a) × (x ≡ a)

  entries_widen : (entries : List ℕ) → Widens (over_entries load last entries) (OneOf Entry entries)
  unfolding over_entries
  entries_widen [] = widens_nothing (one_of_nil Entry)
  entries_widen (a ∷ l) =
      widens_same (one_of_cons Entry a l) (widens_then (widens_if (inside load last a) (λ t. widens_run (one a a) (refl, refl, λ x e. omega arith))) (entries_widen l))

  module _ (reading : Reading) (site : ℕ → Site) where
    -- the bytes of a site that is whole, and what its operand names
    abbrev AtSite : (a x : ℕ) → Type 0
    AtSite a x = (T (site a).whole × ((a ≤ x) × (x < a + (site a).len))) ⊎ T (names reading load last (site a) x)

    site_widens : last < 65536 → (a : ℕ) → ((site a).whole ≡ true → 0 < (site a).len) → Widens (widen_site reading load last a (site a)) (AtSite a)
    site_widens top a filled =
        widens_then
        (widens_if (site a).whole (λ t. let some = filled (pass (site a).whole t) in widens_run (one a (a + (site a).len - 1)) (omega arith, omega arith, λ x m. omega arith)))
        (widens_run (run_of reading load last (site a)) (site_bounds reading load last (site a) top))

    -- a site counts if it is not skipped
    abbrev Counted : (undecoded : Option ℕ) (a x : ℕ) → Type 0
    Counted undecoded a x = (is_skipped undecoded a ≡ false) × AtSite a x

    sites_widen : last < 65536 → (undecoded : Option ℕ) (l : List ℕ) → ((a : ℕ) → a ∈ l → (site a).whole ≡ true → 0 < (site a).len)
        → Widens (over_sites reading load last site undecoded l) (OneOf (Counted undecoded) l)
    unfolding over_sites
    sites_widen top undecoded [] filled = widens_nothing (one_of_nil (Counted undecoded))
    sites_widen top undecoded (a ∷ l) filled =
        widens_same (one_of_cons (Counted undecoded) a l)
        (widens_then (widens_unless (is_skipped undecoded a) (site_widens top a (filled a (here refl)))) (sites_widen top undecoded l (λ b k. filled b (there k))))

-- ── the extent ──
module _ (reading : Reading) (load last : ℕ) (site : ℕ → Site) (undecoded : Option ℕ) (entries l : List ℕ) where
  -- what is named, if the instructions that count are those at the addresses of l, but for the one that was not decoded
  abbrev pub NamedOver : ℕ → Type 0
  NamedOver = Named reading load last site entries (λ a. (a ∈ l) × (is_skipped undecoded a ≡ false))

  abbrev pub extent : Extent
  extent = extent_of reading load last site undecoded entries l

  -- what the passes take in
  abbrev Taken : ℕ → Type 0
  Taken x = OneOf (Entry load last) entries x ⊎ OneOf (Counted load last reading site undecoded) l x

  taken_named : (x : ℕ) → Taken x → NamedOver x
  taken_named x (inl s) = let e = s.2.1 in by_entry (rw e s.1) (rw e s.2.0)
  taken_named x (inr s) =
      let counts : (s.0 ∈ l) × (is_skipped undecoded s.0 ≡ false) = (s.1, s.2.0) in
      ⊎_elim (λ m. by_byte s.0 counts m.0 m.1.0 m.1.1) (by_operand s.0 counts) s.2.1

  named_taken : (x : ℕ) → NamedOver x → Taken x
  named_taken x (by_entry k t) = inl (x, k, (t, refl))
  named_taken x (by_byte a c w p q) = inr (a, c.0, (c.1, inl (w, (p, q))))
  named_taken x (by_operand a c t) = inr (a, c.0, (c.1, inr t))

  module _ (top : last < 65536) (from_load : (a : ℕ) → a ∈ l → load ≤ a)
      (size : (a : ℕ) → a ∈ l → (site a).whole ≡ true → (0 < (site a).len) × (a + (site a).len ≤ suc last)) where
    pub named_inside : (x : ℕ) → NamedOver x → (load ≤ x) × (x ≤ last)
    named_inside x (by_entry k t) = inside_bounds load last x (pass (inside load last x) t)
    named_inside x (by_byte a c w p q) = omega (arith, from_load a c.0, size a c.0 (pass (site a).whole w))
    named_inside x (by_operand a c t) = names_inside reading load last (site a) x t

    passes : Widens load last (λ e. over_sites reading load last site undecoded l (over_entries load last entries e)) Taken
    passes = widens_then load last (entries_widen load last entries) (sites_widen load last reading site top undecoded l (λ a k w. (size a k w).0))

    hull : Hull load last NamedOver (over_sites reading load last site undecoded l (over_entries load last entries (nothing load last)))
    hull =
        hull_same load last (λ x. (⊎_elim (λ z. absurd z) (taken_named x), λ n. inr (named_taken x n)))
        (passes.widens {N = λ x. ⊥} (record { covers = λ x z. absurd z; low_at = inl refl; high_at = inl refl }))

    pub extent_range : {y : ℕ} → NamedOver y → Range NamedOver extent.low extent.high
    extent_range = hull_range load last hull named_inside

    pub extent_empty : ((x : ℕ) → ¬ NamedOver x) → load ≤ last → (extent.low ≡ load) × (extent.high ≡ load)
    extent_empty = hull_empty load last hull
