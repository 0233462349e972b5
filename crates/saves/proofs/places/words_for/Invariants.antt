use Rattle.std.specs.Prelude.{◌≡◌, take, drop, length}
use Rattle.saves.specs.Words.{words_for}
use Rattle.saves.proofs.Words.{before}
use Rattle.saves.proofs.places.words_for.Given as goal

abbrev pub invariant-loop-i : goal.invariant-loop-i
invariant-loop-i g l = record {
  found :
      words_for l.control l.ds l.size l.sp l.values ≡
      before (take l.i l.xs) (words_for l.control l.ds l.size l.at (drop l.i l.values));
  long : length l.xs ≡ length l.values;
}
