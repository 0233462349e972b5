-- `get_all`: the first p bits of the form are the fields before i (`Getting`).
use Rattle.pack.proofs.Loops.{Getting}
use Rattle.pack.proofs.get_all.Given as goal

abbrev pub invariant-loop-i : goal.invariant-loop-i
invariant-loop-i l = Getting l.s l.ws l.initial.vs l.vs l.p l.i
