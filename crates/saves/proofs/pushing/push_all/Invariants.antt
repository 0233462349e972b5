use Rattle.std.specs.Prelude.{◌≡◌, drop}
use Rattle.saves.specs.Words.{all_marking, all_storing, last_at}
use Rattle.saves.proofs.pushing.push_all.Given as goal

abbrev pub invariant-loop-x : goal.invariant-loop-x
invariant-loop-x l = record {
  sp : last_at l.initial.last l.xs ≡ last_at l.last (drop l.x-index l.xs);
  ds : all_marking l.control l.xs l.initial.ds ≡ all_marking l.control (drop l.x-index l.xs) l.ds;
  w : all_storing l.xs l.initial.w ≡ all_storing (drop l.x-index l.xs) l.w;
}
