-- `put_field`: with w - j bits left to put, the bits so far and those left spell the field after what stood before it.
use borrow.Author.Rules.{rules}
use native.Mathlib.Omega.{arith}
use mathlib.Core.Path.{◌≡◌, refl}
use Prim.Native.Nat.{◌+◌, ◌-◌, ◌*◌, ◌/◌, ◌^◌}
use lib.Seq.{drop-set-lt}
use Rattle.pack.specs.Field.{prefix}
use Rattle.pack.proofs.Bits.{put_start, put_turn}
use Rattle.pack.proofs.put_field.Goals as goal

pub loop-j-init : goal.loop-j-init
loop-j-init c =
    let a = c.args in
    (put_start a.out.now a.p a.w a.v c.requires.1, λ i h. refl, search rules)

pub loop-j-preserved : goal.loop-j-preserved
loop-j-preserved c =
    let l = c.loop-j in
    let a = c.args in
    let f = c.put_bit in (
      put_turn l.out f.new.out a.p a.w l.j a.v (prefix a.out.now a.p * 2 ^ a.w + a.v) (omega arith) l.invariant.2 c.loop-j-test.true f.ensures l.invariant.0,
      λ i h. rw (f.ensures, drop-set-lt i l.out ((a.p + l.j) / 8) _ (omega arith)) (l.invariant.1 i h),
      search rules,
    )

pub returns : goal.returns
returns c =
    let l = c.loop-j in
    let e : l.j ≡ c.args.w = omega arith in
    let z : c.args.w - c.args.w ≡ 0 = omega arith in
    record { spelt = omega (arith, rw (e, z) at l.invariant.0); past = l.invariant.1 }
