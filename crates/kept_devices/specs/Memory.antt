-- Files in memory.
use Rattle.std.specs.Prelude.{map}
use Rattle.kept_devices.specs.declared.moment.Moment.{Moment}
use Rattle.kept_devices.specs.declared.memory.MemoryKeep.{MemoryKeep}
use Rattle.kept_devices.specs.Standing.{History, Standing}

abbrev pub standing_of : Moment → Standing
standing_of m = record {
  durable = m.durable.items;
  pending = m.pending.items;
  cut_durable = m.cut_durable.items;
  cut_pending = m.cut_pending.items;
  others = map (λ v. v.items) m.others.items;
  is_doubtful = m.is_doubtful;
}

abbrev pub history_of : MemoryKeep → History
history_of keep = record { past = map standing_of keep.past.items; now = standing_of keep.moment }
