-- Each call's answer is unique, by the theorem of its crate.
use mathlib.Core.List.{List}
use Prim.Native.Nat.{ℕ}
use Rattle.mos6502.specs.Class.{manual_class}
use Rattle.writes.specs.Writes.{manual_writes}
use Rattle.site.specs.declared.Reading.TheVariants.{Plain, Guarded}
use Rattle.span.proofs.Unique as span
use Rattle.diagnosis.proofs.Unique as diagnosis
use Rattle.stores.proofs.Unique as stores
use Rattle.promises.specs.Unique.{Unique}

pub unique : (image : List ℕ) (load : ℕ) (entries : List ℕ) → Unique image load entries
unique image load entries =
    record {
      reachable_span = span.answers_unique manual_class image load entries Plain;
      reachable_end = span.end_unique manual_class image load entries;
      guarded_span = span.answers_unique manual_class image load entries Guarded;
      diagnose = diagnosis.answers_unique manual_class image load entries;
      write_extent = stores.answers_unique manual_class manual_writes image load entries;
    }
