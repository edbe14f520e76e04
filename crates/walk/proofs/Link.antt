-- How the locals of `walk` stand for where the machine of `reach` is, and what each piece of the code does to that. The machine's lists of what is pending
-- and of the entries left are the code's, read from the end; its list of what is met no local holds, but the map has its members.
use mathlib.Core.Path.{◌≡◌, refl, sym, ap, ◌∙◌}
use mathlib.Core.Logic.{◌≢◌}
use mathlib.Core.Bool.{Bool, true, false, ◌||◌}
use mathlib.Core.List.{List, [], ◌∷◌, reverse}
use Prim.Native.Nat.{ℕ, suc, ◌+◌, ◌<◌}
use native.Mathlib.Decide.{ℕ_discrete}
use native.Mathlib.Numerals.{add-one}
use native.Mathlib.Omega.{arith}
use lib.Dec.{eqb}
use lib.ListN.{length}
use borrow.Author.Tests.{eq-eqb, ne_eqb, not-true, not-false}
use Rattle.lists.specs.Lists.{elem}
use Rattle.lists.proofs.Tests.{pass, passed, clash}
use Rattle.lists.proofs.Sets.{elem_mem, mem_elem}
use Rattle.lists.proofs.Stack.{last_first_reverse}
use Rattle.mos6502.specs.Class.{manual_class}
use Rattle.image.specs.Image.{inside}
use Rattle.address_set.specs.Map.{has, Inserted}
use Rattle.site.specs.Site.{site_in}
use Rattle.reach.specs.Walk.{State, visiting, between, Turn, turns, halts, act, turn, Runs, halting, turning}
use Rattle.reach.specs.Walk as machine
use Rattle.reach.proofs.Turn.{Fresh, turn_skips, turn_spent, turn_fresh}
use Rattle.walk.specs.declared.End.{End}
use Rattle.walk.specs.declared.End.TheVariants.{Finished, Refused, Spent, Full}
use Rattle.walk.specs.declared.Rule.{Rule}
use Rattle.walk.specs.declared.Step.{Step}
use Rattle.walk.specs.declared.Step.TheVariants.{Ends, Refuses, Goes, Forks}
use Rattle.walk.specs.Step.{step_by, as_step}
use Rattle.walk.specs.Walked.{limit, step_in, as_end, Walk, Cleared, Walked}

-- ── an insertion ──
module _ {map map' : List ℕ} {a : ℕ} {new : Bool} (i : Inserted map a map' new) where
  grown : (b : ℕ) → has map' b ≡ (eqb b a || has map b)
  grown b = by (ℕ_discrete b a)
    where
      by : Dec (b ≡ a) → has map' b ≡ (eqb b a || has map b)
      by (yes e) = rw (eq-eqb b a e, e) i.here
      by (no n) = rw (ne_eqb b a n) (i.other b n)

  -- what is a member already changes nothing
  unchanged : has map a ≡ true → (b : ℕ) → has map' b ≡ has map b
  unchanged old b = by (ℕ_discrete b a)
    where
      by : Dec (b ≡ a) → has map' b ≡ has map b
      by (yes e) = rw (e, i.here, old)
      by (no n) = i.other b n

-- ── what the code has ──
-- what is walked, and from where
pub record Setting : Type 0 where
  pub rule : Rule
  pub image : List ℕ
  pub load : ℕ
  pub last : ℕ
  pub entries : List ℕ

module _ (w : Setting) where
  -- one turn of the machine
  abbrev next : State → Turn
  next = turn (step_in manual_class w.rule w.image w.load w.last) (inside w.load w.last) limit limit

  -- the step of the site at an address, as the code asks for it
  abbrev step_at : ℕ → Step
  step_at a = step_by w.rule (inside w.load w.last) (site_in manual_class w.image w.load w.last a)

  -- what a turn led to comes to this end
  abbrev Comes : Turn → machine.End → List ℕ → Type 0
  Comes (turns s) e m = Runs (step_in manual_class w.rule w.image w.load w.last) (inside w.load w.last) limit limit s e m
  Comes (halts f l) e m = halts f l ≡ halts e m

  comes : {s : State} {e : machine.End} {m : List ℕ} (t : Turn) → next s ≡ t → Comes t e m → Comes (turns s) e m
  comes (turns u) p r = turning p r
  comes (halts f l) p q = halting (p ∙ q)

  -- The locals stand for where the machine is. `list`: what it has met. `at`: what its last turn led to, and whatever end that comes to, the walk comes to.
  pub record Link (map : List ℕ) (met : ℕ) (at : (met : List ℕ) → Turn) : Type 0 where
    pub list : List ℕ
    pub count : length list ≡ met
    pub marks : (a : ℕ) → has map a ≡ elem a list
    pub runs : (e : machine.End) (m : List ℕ) → Comes (at list) e m → Walk manual_class w.rule w.image w.load w.last w.entries e m
    pub size : length map ≡ 8192

  -- the contract of `walk`
  abbrev Ended : End → (map : List ℕ) → Type 0
  Ended = Walked w.rule w.image w.load w.last w.entries

  -- the machine was between two paths, and has taken what is next
  abbrev pub pausing : (pending left : List ℕ) (met : List ℕ) → Turn
  pausing pending left met = next (between met pending left)

-- the machine is on a path, at pc
abbrev pub standing : (pc : ℕ) (pending left : List ℕ) (met : List ℕ) → Turn
standing pc pending left met = turns (visiting pc met pending left)

-- what the code has once pc is met, by the step there
abbrev pub Met : (w : Setting) (map : List ℕ) (met pc : ℕ) (pending left : List ℕ) → Step → Type 0
Met w map met pc pending left Ends = Link w map met (pausing w pending left)
Met w map met pc pending left Refuses = Ended w (Refused pc) map
Met w map met pc pending left (Goes n) = Link w map met (standing n pending left)
Met w map met pc pending left (Forks n t) =
    (length pending ≡ limit → Ended w (Full pc) map) × (length pending < limit → Link w map met (standing n (t ∷ pending) left))

-- ── between paths ──
module _ {w : Setting} {map : List ℕ} {met : ℕ} where
  -- a turn at which no address is met
  turned : {at at' : (met : List ℕ) → Turn} {map' : List ℕ} (k : Link w map met at) → ((a : ℕ) → has map' a ≡ has map a) → length map' ≡ length map
      → ((e : machine.End) (m : List ℕ) → Comes w (at' k.list) e m → Comes w (at k.list) e m) → Link w map' met at'
  turned k same size t = record {
    list = k.list;
    count = k.count;
    marks = λ a. same a ∙ k.marks a;
    runs = λ e m r. k.runs e m (t e m r);
    size = size ∙ k.size;
  }

  module _ {pending left : List ℕ} where
    -- a path has ended
    paused : Link w map met (λ m. turns (between m pending left)) → Link w map met (pausing w pending left)
    paused k = turned k (λ a. refl) refl (λ e m r. comes w (pausing w pending left k.list) refl r)

    -- what was put by is taken
    pub popped : (t : ℕ) → Link w map met (pausing w (t ∷ pending) left) → Link w map met (standing t pending left)
    unfolding turn
    popped t k = k

  -- an entry is next, where nothing was put by: as if it had been
  pub taken : (x : ℕ) (left : List ℕ) → Link w map met (pausing w [] (x ∷ left)) → Link w map met (pausing w (x ∷ []) left)
  unfolding turn
  taken x left k = k

  ends : (e : End) → Link w map met (λ m. halts (as_end e) m) → Ended w e map
  ends e k = record { met = k.list; walk = k.runs (as_end e) k.list refl; size = k.size; exact = k.marks }

  pub finished : Link w map met (pausing w [] []) → Ended w Finished map
  unfolding turn
  finished k = ends Finished k

pub begins : {w : Setting} {map : List ℕ} → Cleared map → Link w map 0 (pausing w [] (reverse w.entries))
begins {w} c = paused (record { list = []; count = refl; marks = c.none; runs = λ e m r. rw (last_first_reverse w.entries) r; size = c.size })

-- ── on a path ──
module _ {w : Setting} {map pending left : List ℕ} {met pc : ℕ} (k : Link w map met (standing pc pending left)) where
  -- what the turn from here leads to
  abbrev led : Turn
  led = next w (visiting pc k.list pending left)

  pub outside : inside w.load w.last pc ≡ false → Link w map met (pausing w pending left)
  outside e =
      paused (turned k (λ a. refl) refl (λ f m r. comes w (turns (between k.list pending left)) (turn_skips _ _ _ _ _ _ (λ t. absurd (clash (pass _ t) e))) r))

  module _ {map' : List ℕ} {new : Bool} (i : Inserted map pc map' new) where
    pub again : new ≡ false → Link w map' met (pausing w pending left)
    again e =
        let old : has map pc ≡ true = not-false _ (sym i.fresh ∙ e) in
        let skips : led ≡ turns (between k.list pending left) = turn_skips _ _ _ _ _ _ (λ t. elem_mem pc k.list (passed (sym (k.marks pc) ∙ old))) in
        paused (turned k (unchanged i old) i.size (λ f m r. comes w (turns (between k.list pending left)) skips r))

    module _ (within : inside w.load w.last pc ≡ true) (e : new ≡ true) where
      fresh : Fresh (inside w.load w.last) pc k.list
      fresh = record {
        within = passed within;
        new = λ m. clash (pass _ (mem_elem m)) (sym (k.marks pc) ∙ not-true _ (sym i.fresh ∙ e));
      }

      -- a turn at which pc is met
      advanced : (at : (met : List ℕ) → Turn) → led ≡ at (pc ∷ k.list) → Link w map' (met + 1) at
      advanced at t = record {
        list = pc ∷ k.list;
        count = rw add-one (ap suc k.count);
        marks = λ a. grown i a ∙ ap (λ (b : Bool). eqb a pc || b) (k.marks a);
        runs = λ f m r. k.runs f m (comes w (at (pc ∷ k.list)) t r);
        size = i.size ∙ k.size;
      }

      halted : (f : End) → led ≡ halts (as_end f) (pc ∷ k.list) → Ended w f map'
      halted f t = ends f (advanced (λ m. halts (as_end f) m) t)

      pub spent : met ≡ limit → Ended w (Spent pc) map'
      spent f = halted (Spent pc) (turn_spent _ _ _ _ _ _ fresh (k.count ∙ f))

      module _ (f : met ≢ limit) where
        acts : (s : Step) → s ≡ step_at w pc → led ≡ act limit (as_step s) pc (pc ∷ k.list) pending left
        unfolding step_in
        acts s q = turn_fresh _ _ _ _ _ _ fresh (λ z. f (sym k.count ∙ z)) ∙ rw q

        pub meets : (s : Step) → s ≡ step_at w pc → Met w map' (met + 1) pc pending left s
        meets Ends q = paused (advanced (λ m. turns (between m pending left)) (acts Ends q))
        meets Refuses q = halted (Refused pc) (acts Refuses q)
        meets (Goes n) q = advanced (standing n pending left) (acts (Goes n) q)
        meets (Forks n t) q = (
          λ h. halted (Full pc) (acts (Forks n t) q ∙ rw (eq-eqb (length pending) limit h)),
          λ h.
              let spare : length pending ≢ limit = omega arith in
              advanced (standing n (t ∷ pending) left) (acts (Forks n t) q ∙ rw (ne_eqb (length pending) limit spare)),
        )
