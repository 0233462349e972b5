-- `get_all`: the first p bits of the form are the fields before i (`Getting`).
use borrow.Author.Rules.{rules}
use Rattle.pack.proofs.Loops.{getting_start, getting_place, getting_turn, getting_end}
use Rattle.pack.proofs.get_all.Goals as goal

pub loop-i-init : goal.loop-i-init
loop-i-init c =
    let a = c.args in
    getting_start a.s.now a.ws.now a.vs.now (search rules)

pub get_field-requires : goal.get_field-requires
get_field-requires c =
    let l = c.loop-i in
    let a = c.args in
    getting_place a.s.now a.ws.now a.vs.now l.vs l.p l.i c.requires l.invariant (search rules)

pub loop-i-preserved : goal.loop-i-preserved
loop-i-preserved c =
    let l = c.loop-i in
    let a = c.args in
    let f = c.get_field in
    getting_turn a.s.now a.ws.now a.vs.now l.vs l.p l.i c.requires l.invariant (search rules) f.result f.ensures

pub returns : goal.returns
returns c =
    let l = c.loop-i in
    let a = c.args in
    getting_end a.s.now a.ws.now a.vs.now l.vs l.p l.i c.requires l.invariant (search rules) (search rules)
