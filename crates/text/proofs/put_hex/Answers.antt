-- `text::put_hex` meets its contract: each turn appends the first of the digits that are left.
use mathlib.Core.Path.{◌≡◌, ap}
use mathlib.Core.List.{List, ◌∷◌, ◌++◌, append-nil, append_assoc}
use Prim.Native.Nat.{ℕ, ◌<◌}
use native.Mathlib.Omega.{arith}
use borrow.Author.Rules.{rules}
use lib.ListN.{length, length-append}
use Rattle.text.specs.Text.{hex_of, Room}
use Rattle.text.proofs.Digits.{hex_none, hex_next}
use Rattle.text.proofs.put_hex.Goals as goal

room_left : (items start text : List ℕ) (n d : ℕ) (more : List ℕ) → items ++ d ∷ more ≡ start ++ text → Room start text n → length items < n
room_left items start text n d more e room = omega (arith, ap length e, length-append items (d ∷ more), length-append start text)

pub push-requires : goal.push-requires
push-requires g c =
    let next = hex_next c.loop-i.i c.args.value (omega arith) in
    let room = room_left _ _ (hex_of c.args.width c.args.value) _ _ _ (rw next at c.loop-i.invariant) c.requires in
    search rules

pub loop-i-preserved : goal.loop-i-preserved
loop-i-preserved g c =
    rw (c.push.ensures.items, c.hex_digit.ensures, c.digit_at.ensures.0, append_assoc) (rw (hex_next c.loop-i.i c.args.value (omega arith)) at c.loop-i.invariant)

pub returns : goal.returns
returns g c =
    let none : c.loop-i.i ≡ 0 = omega arith in
    rw (none, hex_none c.args.value, append-nil) at c.loop-i.invariant
