-- `get_field`: after k turns v is what the k bits from p on spell.
use borrow.Author.Rules.{rules}
use native.Mathlib.Omega.{arith}
use mathlib.Core.Path.{◌≡◌}
use Rattle.pack.proofs.Bits.{get_start, get_turn, twice_lt}
use Rattle.pack.proofs.get_field.Goals as goal

pub loop-k-init : goal.loop-k-init
loop-k-init c = let a = c.args in (omega arith, get_start a.s.now a.p)

pub loop-k-preserved : goal.loop-k-preserved
loop-k-preserved c =
    let l = c.loop-k in
    let a = c.args in
    let f = c.get_bit in (
      twice_lt l.k l.v f.result l.invariant.0 (omega arith),
      get_turn a.s.now a.p l.k l.v f.result (omega arith) (search rules) f.ensures l.invariant.1,
    )

pub returns : goal.returns
returns c =
    let l = c.loop-k in
    let z : l.k ≡ c.args.w = omega arith in
    record { spelt = rw z at l.invariant.1; fits = rw z at l.invariant.0 }
