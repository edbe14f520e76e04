-- `pages::Survey::of` meets its contract: each field is what its pass gives.
use Rattle.std.proofs.Common.{◌≡◌, Bool, ◌∙◌}
use Rattle.resolver.specs.declared.Seen.{Seen}
use Rattle.pages.specs.declared.Habit.{Habit}
use Rattle.pages.proofs.Pairs.{limit_listed}
use Rattle.pages.proofs.Survey.of.Goals as goal

habit_same : {up up' down down' dex dex' : Bool} {limit limit' : Seen} → up ≡ up' → down ≡ down' → limit ≡ limit' → dex ≡ dex'
    → ◌≡◌ {A = Habit} (record { up = up; down = down; limit = limit; dex = dex }) (record { up = up'; down = down'; limit = limit'; dex = dex' })
habit_same u d l x = cc

pub returns : goal.returns
returns c = λ z.
    let limit = c.note_limits.ensures.each z ∙ limit_listed _ _ _ c.args.image.lies z _ _ in
    habit_same (c.mark_operands.ensures.each z) (c.mark_operands-2.ensures.each z) limit c.is_met.ensures
