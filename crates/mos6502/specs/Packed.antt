-- A class as one number: the mode's place in `Mode` x 16 + the flow's place in `Flow`.
-- Assumes nothing.
use Rattle.std.specs.Prelude.{List, [], ◌∷◌, ℕ, ◌+◌, ◌*◌, get_or}
use Rattle.mos6502.specs.declared.Mode.{Mode}
use Rattle.mos6502.specs.declared.Mode.TheVariants.{Imp, Imm, Zp, ZpX, ZpY, Izx, Izy, Rel, Abs, AbX, AbY, Ind, Illegal}
use Rattle.mos6502.specs.declared.Flow.{Flow}
use Rattle.mos6502.specs.declared.Flow.TheVariants.{Next, Jump, Call, Branch, Stop, Refuse}
use Rattle.mos6502.specs.declared.Decoded.{Decoded}

-- the modes in their order, up to the last, and the one at a place
abbrev pub modes : List Mode
modes = Imp ∷ Imm ∷ Zp ∷ ZpX ∷ ZpY ∷ Izx ∷ Izy ∷ Rel ∷ Abs ∷ AbX ∷ AbY ∷ Ind ∷ []

abbrev pub mode_at : ℕ → Mode
mode_at n = get_or modes n Illegal

-- the flows in their order, up to the last, and the one at a place
abbrev pub flows : List Flow
flows = Next ∷ Jump ∷ Call ∷ Branch ∷ Stop ∷ []

abbrev pub flow_at : ℕ → Flow
flow_at n = get_or flows n Refuse

-- the place of a mode, and of a flow
abbrev pub mode_place : Mode → ℕ
mode_place Imp = 0
mode_place Imm = 1
mode_place Zp = 2
mode_place ZpX = 3
mode_place ZpY = 4
mode_place Izx = 5
mode_place Izy = 6
mode_place Rel = 7
mode_place Abs = 8
mode_place AbX = 9
mode_place AbY = 10
mode_place Ind = 11
mode_place Illegal = 12

abbrev pub flow_place : Flow → ℕ
flow_place Next = 0
flow_place Jump = 1
flow_place Call = 2
flow_place Branch = 3
flow_place Stop = 4
flow_place Refuse = 5

abbrev pub pack : Decoded → ℕ
pack d = mode_place d.mode * 16 + flow_place d.flow
