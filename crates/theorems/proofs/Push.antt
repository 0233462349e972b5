-- P11: a user PUSH whose two bytes lie in pages 0 and 1.
use Rattle.std.specs.Prelude.{Result, Ok, Err}
use Prim.Native.Nat.{ℕ, zero, suc, ◌+◌, ◌*◌, ◌/◌, ◌%◌, ◌<◌}
use mathlib.Core.Path.{◌≡◌, refl, ◌∙◌, ap}
use mathlib.Core.Bool.{true, false}
use mathlib.Core.List.{List, [], ◌∷◌}
use native.Mathlib.Omega.{arith}
use lib.ListN.{length, get_or}
use borrow.Author.Tests.{lt-ltb}
use Rattle.mmu.specs.Translate.{mode_bits, number_of, index, valid, barred, physical, by_descriptor, placed, translate}
use Rattle.board.specs.declared.Fault.{Fault}
use Rattle.board.specs.declared.Fault.TheVariants.{Denied}
use Rattle.board.specs.Program.{Prog, done, violation, State, through, from_memory, if_room, read_byte, write_to, faulted, after, writes, finish, exec, completed, Write}
use Rattle.board.specs.Run.{step}
use Rattle.decode.specs.Opening.{opening_of, entered}
use Rattle.decode.specs.None.{formats_none}
use Rattle.regs.specs.declared.Regs.{Regs}
use Rattle.regs.specs.declared.Control.{Control}
use Rattle.regs.specs.Change.{with_pc, with_usp}
use Rattle.regs.specs.Select.{user_of, sp_of, put_sp, stacked_of, index_of}
use Rattle.plan.specs.Kinds.{plus}
use Rattle.plan.specs.Places.{spot_of}
use Rattle.plan.specs.Stack.{pushed}
use Rattle.load16.specs.Stack.{push_rr}
use Rattle.execute.specs.Execute.{execute_by, execute_of}
use Rattle.bus.specs.Board.{real, load_at}
use Rattle.bus.specs.Access.{next, count}
use Rattle.bus.specs.Leave.{state_of, two_writes, listed}
use Rattle.cpu.specs.Program.{read_n, finished, worked, operated, went, early, judged, arg_of, ins_of, classed, formed, first, leading, program}
use Rattle.theorems.specs.Known.{byte_in, Backed}

-- ── what the instruction is ──

after_push : Regs → Regs
after_push r = with_usp 0x0FFF (with_pc (plus (next r.pc) 0) r)

is_push : (q : ℕ) → q < 4 → (r : Regs) (c : Control) → user_of c ≡ true → r.usp ≡ 0x1001 →
    first (formed r c) (next r.pc) ((0xC5 + 16 * q) % 256) ≡ done (after_push r) (two_writes false 0x0FFF (stacked_of 0 q r))
unfolding after_push first opening_of formed entered formats_none classed read_n count judged early went operated spot_of worked finished execute_of execute_by push_rr pushed sp_of put_sp stacked_of index_of ins_of arg_of listed
is_push zero l r c u sp = rw (u, sp)
is_push (suc zero) l r c u sp = rw (u, sp)
is_push (suc (suc zero)) l r c u sp = rw (u, sp)
is_push (suc (suc (suc zero))) l r c u sp = rw (u, sp)
is_push (suc (suc (suc (suc q)))) l r c u sp = absurd (omega arith)

-- ── one step, with descriptors 0 and 1 as they may be ──

bound : (d a n : ℕ) → d / 16 * 4096 + 4095 < n → byte_in d a < n
bound d a n h = omega arith

module _ (q d2 : ℕ) (rest : List ℕ) (r : Regs) (c : Control) (mem : List ℕ) (u : user_of c ≡ true) (sp : r.usp ≡ 0x1001)
    (page : r.pc / 4096 ≡ 2) (h2 : Backed d2 (length mem)) (pair : q < 4) (code : get_or mem (byte_in d2 r.pc) 0 ≡ 0xC5 + 16 * q) where
  abbrev pub at : (mmu e0 e1 : ℕ) → State real
  at mmu e0 e1 = state_of r c mmu (e0 ∷ e1 ∷ d2 ∷ rest) mem

  module _ (mmu e0 e1 : ℕ) (mode : mode_bits mmu true ≡ 2) where
    fetched : read_byte (at mmu e0 e1) true r.pc ≡ Ok (0xC5 + 16 * q)
    unfolding read_byte through from_memory load_at translate placed number_of index by_descriptor barred physical
    fetched = rw (u, mode, page, h2.good, lt-ltb (byte_in d2 r.pc) (length mem) (bound d2 r.pc (length mem) h2.there), code)

    low : Write
    low = record { program = false; addr = 0x0FFF; byte = stacked_of 0 q r % 256 }

    high : Write
    high = record { program = false; addr = 0x1000; byte = stacked_of 0 q r / 256 }

    stepped : step program (at mmu e0 e1) ≡ writes (at mmu e0 e1) (after_push r) (low ∷ high ∷ []) (e0 ∷ e1 ∷ d2 ∷ rest) mem
    unfolding step program leading exec after low high
    stepped =
        let s : State real = at mmu e0 e1 in
        ap (λ (g : Result ℕ Fault). after s g (λ b. exec (first (formed r c) (next r.pc) (b % 256)) s)) fetched ∙
        ap (λ (p : Prog real). exec p s) (is_push q pair r c u sp)

    shut : (x : Write) (i e : ℕ) → number_of 2 true x.program x.addr ≡ i → get_or (e0 ∷ e1 ∷ d2 ∷ rest) i 0 ≡ e → valid e ≡ false → write_to (at mmu e0 e1) x ≡ Err (Denied i)
    unfolding write_to through translate placed by_descriptor barred
    shut x i e n d v = rw (u, mode, n, d, v)

    passes : (x : Write) (i e : ℕ) → number_of 2 true x.program x.addr ≡ i → get_or (e0 ∷ e1 ∷ d2 ∷ rest) i 0 ≡ e → Backed e (length mem) → write_to (at mmu e0 e1) x ≡ Ok (byte_in e x.addr)
    unfolding write_to through if_room translate placed by_descriptor barred physical
    passes x i e n d b = rw (u, mode, n, d, b.good, b.free, lt-ltb (byte_in e x.addr) (length mem) (bound e x.addr (length mem) b.there))

    pub lacks_0 : valid e0 ≡ false → step program (at mmu e0 e1) ≡ record { state = faulted (at mmu e0 e1) 0; event = violation 0 r.pc }
    unfolding writes after number_of index low
    lacks_0 v = stepped ∙ rw (shut low 0 e0 refl refl v)

    pub lacks_1 : Backed e0 (length mem) → valid e1 ≡ false → step program (at mmu e0 e1) ≡ record { state = faulted (at mmu e0 e1) 1; event = violation 1 r.pc }
    unfolding writes after number_of index low high
    lacks_1 b v = stepped ∙ rw (passes low 0 e0 refl refl b, shut high 1 e1 refl refl v)

    pub completes : Backed e0 (length mem) → Backed e1 (length mem) →
        ((step program (at mmu e0 e1)).event ≡ completed) × ((step program (at mmu e0 e1)).state.regs.usp ≡ 0x0FFF)
    unfolding writes finish after number_of index low high after_push
    completes b b' = rw (stepped, passes low 0 e0 refl refl b, passes high 1 e1 refl refl b') (refl, refl)
