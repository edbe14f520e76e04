-- A table of one entry for each opcode: where it is the list of the manual's answers in order, each entry is its opcode's answer. And unpacking a class, which undoes
-- packing.
use mathlib.Core.Path.{◌≡◌, refl, ap, ap₂, ◌∙◌}
use mathlib.Core.List.{List, [], ◌∷◌}
use Prim.Native.Nat.{ℕ, zero, suc, ◌+◌, ◌/◌, ◌%◌, ◌<◌}
use native.Mathlib.Nat.{add-zero, zero-add}
use native.Mathlib.Omega.{arith}
use lib.ListN.{get_or}
use Rattle.mos6502.specs.declared.Mode.{Mode}
use Rattle.mos6502.specs.declared.Mode.TheVariants.{Imp, Imm, Zp, ZpX, ZpY, Izx, Izy, Rel, Abs, AbX, AbY, Ind, Illegal}
use Rattle.mos6502.specs.declared.Flow.{Flow}
use Rattle.mos6502.specs.declared.Flow.TheVariants.{Next, Jump, Call, Branch, Stop, Refuse}
use Rattle.mos6502.specs.declared.Decoded.{Decoded}
use Rattle.mos6502.specs.Packed.{mode_at, flow_at, mode_place, flow_place, pack}

-- f at the n numbers from i on
abbrev pub row : {A : Type 0} → (ℕ → A) → (i n : ℕ) → List A
row f i zero = []
row f i (suc n) = f i ∷ row f (suc i) n

from : {A : Type 0} (f : ℕ → A) (none : A) (table : List A) (i n k : ℕ) → table ≡ row f i n → k < n → get_or table k none ≡ f (i + k)
from f none [] i zero k e h = absurd (omega arith)
from f none [] i (suc n) k e h = cc
from f none (x ∷ xs) i zero k e h = absurd (omega arith)
from f none (x ∷ xs) i (suc n) zero e h = rw add-zero (cc)
from f none (x ∷ xs) i (suc n) (suc k) e h =
    let same : i + suc k ≡ suc i + k = omega arith in
    let rest : xs ≡ row f (suc i) n = cc in
    rw same (from f none xs (suc i) n k rest (omega arith))

pub entry : {A : Type 0} (f : ℕ → A) (none : A) (table : List A) (n k : ℕ) → table ≡ row f 0 n → k < n → get_or table k none ≡ f k
entry f none table n k e h = rw zero-add at (from f none table 0 n k e h)

-- ── a packed class ──
mode_back : (m : Mode) → mode_at (mode_place m) ≡ m
mode_back Imp = refl
mode_back Imm = refl
mode_back Zp = refl
mode_back ZpX = refl
mode_back ZpY = refl
mode_back Izx = refl
mode_back Izy = refl
mode_back Rel = refl
mode_back Abs = refl
mode_back AbX = refl
mode_back AbY = refl
mode_back Ind = refl
mode_back Illegal = refl

flow_back : (f : Flow) → (flow_at (flow_place f) ≡ f) × (flow_place f < 16)
flow_back Next = (refl, omega arith)
flow_back Jump = (refl, omega arith)
flow_back Call = (refl, omega arith)
flow_back Branch = (refl, omega arith)
flow_back Stop = (refl, omega arith)
flow_back Refuse = (refl, omega arith)

pub unpacked : {d : Decoded} {x : ℕ} {m : Mode} {f : Flow} → x ≡ pack d → m ≡ mode_at (x / 16) → f ≡ flow_at (x % 16) → record { mode = m; flow = f } ≡ d
unpacked {d} {x} e p q =
    let r = flow_back d.flow in
    let high : x / 16 ≡ mode_place d.mode = omega arith in
    let low : x % 16 ≡ flow_place d.flow = omega arith in
    ap₂ {C = Decoded} (λ (m : Mode) (f : Flow). record { mode = m; flow = f }) (p ∙ ap mode_at high ∙ mode_back d.mode) (q ∙ ap flow_at low ∙ r.0)
