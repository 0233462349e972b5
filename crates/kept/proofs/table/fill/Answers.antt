-- `kept::table::fill` meets its contract.
use mathlib.Core.Path.{◌∙◌, ◌≡◌}
use mathlib.Core.Bool.{false}
use native.Mathlib.Omega.{arith}
use Prim.Native.Nat.{ℕ, ◌<◌}
use lib.ListN.{get_or, length-set}
use lib.Dec.{eqb}
use Rattle.kept.proofs.Filling.{fill_more, filled, fits, entered}
use Rattle.kept.specs.Kept.{Entered}
use Rattle.kept.proofs.table.fill.Goals as goal

pub loop-k-preserved : goal.loop-k-preserved
loop-k-preserved c =
    rw (c.from.ensures, c.unwrap_or.ensures) (
      length-set c.loop-k.kept _ _ ∙ c.loop-k.invariant.0,
      fill_more (λ j v. eqb v 1 ≡ false → Entered c.args.mode.user c.args.mode.control c.args.ds.now c.args.size j v)
          c.loop-k.kept c.loop-k.k _ (rw c.loop-k.invariant.0 c.loop-k-test.true) c.loop-k.invariant.1
          (entered _ _ _ _ _ c.entry.result c.entry.ensures),
    )

pub returns : goal.returns
returns c =
    let all : (k : ℕ) → k < 48 → eqb (get_or c.loop-k.kept k 0) 1 ≡ false →
    Entered c.args.mode.user c.args.mode.control c.args.ds.now c.args.size k (get_or c.loop-k.kept k 0) =
    λ k h. c.loop-k.invariant.1 k (omega (arith, h, c.loop-k-test.false)) in
    record {
      right = filled c.loop-k.kept _ _ _ c.args.size all;
      inside = fits c.loop-k.kept _ _ _ c.args.size all;
      kept_len_2 = c.loop-k.invariant.0;
    }
