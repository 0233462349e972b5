-- `put_all`: the first p bits of the buffer are the fields before i (`Reached`); the bytes past the form are those at the start.
use borrow.Author.Rules.{rules}
use native.Mathlib.Omega.{arith}
use mathlib.Core.Path.{refl, sym, ◌∙◌}
use Rattle.pack.specs.Pack.{size}
use Rattle.pack.specs.Field.{prefix}
use Rattle.pack.proofs.Laws.{Bytes}
use Rattle.pack.proofs.Bits.{prefix_whole, prefix_none}
use Rattle.pack.proofs.Loops.{reached_start, reached_place, reached_within, reached_fits, reached_turn, reached_end, packed}
use Rattle.pack.proofs.put_all.Goals as goal

pub loop-i-init : goal.loop-i-init
loop-i-init c =
    let a = c.args in
    let b : Bytes a.out.now = search rules in
    (reached_start a.ws.now a.vs.now _ c.requires.1 (prefix_none a.out.now b), refl, refl, b)

pub put_field-requires : goal.put_field-requires
put_field-requires c =
    let l = c.loop-i in
    let a = c.args in (
      reached_place a.ws.now a.vs.now (prefix l.out l.p) l.p l.i c.requires.0 l.invariant.0 (search rules) l.out (omega (arith, l.invariant.1, c.requires.2)),
      reached_fits a.ws.now a.vs.now (prefix l.out l.p) l.p l.i c.requires.0 l.invariant.0 (search rules),
    )

pub loop-i-preserved : goal.loop-i-preserved
loop-i-preserved c =
    let l = c.loop-i in
    let a = c.args in
    let g = c.put_field in (
      reached_turn a.ws.now a.vs.now (prefix l.out l.p) l.p l.i c.requires.0 l.invariant.0 (search rules) _ g.ensures.spelt,
      search rules,
      g.ensures.past (size a.ws.now) (reached_within a.ws.now a.vs.now (prefix l.out l.p) l.p l.i c.requires.0 l.invariant.0 (search rules)).0 ∙ l.invariant.2,
      search rules,
    )

pub returns : goal.returns
returns c =
    let l = c.loop-i in
    let a = c.args in
    let e = reached_end a.ws.now a.vs.now (prefix l.out l.p) l.p l.i c.requires.0 l.invariant.0 (search rules) in
    packed a.ws.now a.vs.now l.out (omega (arith, l.invariant.1, c.requires.2)) l.invariant.3
    (sym (prefix_whole l.out (size a.ws.now) l.invariant.3) ∙ rw (← e.0) e.1)
    ∙ rw l.invariant.2
