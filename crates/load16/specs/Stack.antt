-- PUSH and POP. `r` the registers, PC past the instruction; `u` user mode, whose stack is meant; `v` the word read.
use Rattle.std.specs.Prelude.{ℕ, Bool, List, [], ◌∷◌, get_or}
use Rattle.regs.specs.declared.Regs.{Regs}
use Rattle.regs.specs.Select.{stacked_of, put_stacked}
use Rattle.plan.specs.declared.kinds.Ins.{Ins}
use Rattle.plan.specs.declared.kinds.Spot.{Spot}
use Rattle.plan.specs.declared.kinds.Done.{Done}
use Rattle.plan.specs.Kinds.{quiet, stores_word, plus, word, bits54}
use Rattle.plan.specs.Places.{data_at, code_at}
use Rattle.plan.specs.Stack.{pushed, popped}

-- POP RR and XY, line 5762: BC DE HL AF by bits 5 and 4
unfoldable pub pop_rr : Regs → Bool → Ins → ℕ → Done
pop_rr r u i v = quiet (put_stacked i.opening (bits54 i) (word v) (popped r u))

-- where POP to memory writes, line 5783: bits 5 and 4 are 00 for (HL), 01 for (addr), 11 for <addr>
abbrev pub pop_spots : Regs → Ins → List Spot
pop_spots r i = data_at 0 r.hl ∷ data_at 0 (word i.arg) ∷ []

unfoldable pub pop_spot : Regs → Ins → Spot
pop_spot r i = get_or (pop_spots r i) (bits54 i) (code_at 0 (plus i.next (word i.arg)))

-- POP (HL), (addr), <addr>, lines 5762, 5770: the top of the stack was read whole before the destination is written
unfoldable pub pop_m : Regs → Bool → Ins → ℕ → Done
pop_m r u i v = stores_word (popped r u) (pop_spot r i) (word v)

-- PUSH RR and XY, line 5809
unfoldable pub push_rr : Regs → Bool → Ins → Done
push_rr r u i = pushed r u (stacked_of i.opening (bits54 i) r)

-- PUSH nn, line 5809
unfoldable pub push_nn : Regs → Bool → Ins → Done
push_nn r u i = pushed r u (word i.arg)

-- PUSH (HL), (addr), <addr>, lines 5809, 5819: the source was read whole before the stack is written
unfoldable pub push_m : Regs → Bool → ℕ → Done
push_m r u v = pushed r u (word v)
