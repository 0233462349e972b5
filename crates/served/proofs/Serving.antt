-- A quick step is the step: from the parts of an instruction to the execution of its program, over plain values.
use Prim.Native.Nat.{ℕ, zero, suc, ◌%◌, ◌<◌, ◌≤◌}
use mathlib.Core.Path.{◌≡◌, refl, sym, ◌∙◌, ap}
use mathlib.Core.Bool.{Bool, true, false}
use mathlib.Core.List.{List, []}
use Rattle.std.specs.Prelude.{Option, Some, None, IfSome}
use native.Mathlib.Omega.{arith}
use Rattle.std.proofs.Common.{rules}
use borrow.Author.Tests.{le-ltb}
use lib.Dec.{ltb}
use Rattle.board.specs.Program as b
use Rattle.regs.specs.declared.Regs.{Regs}
use Rattle.regs.specs.Change.{with_pc}
use Rattle.regs.specs.Select.{user_of}
use Rattle.decode.specs.Entry.{op_in, bytes_in}
use Rattle.plan.specs.declared.kinds.Ins.{Ins}
use Rattle.plan.specs.declared.kinds.Spot.{Spot}
use Rattle.plan.specs.declared.kinds.Done.{Done}
use Rattle.plan.specs.Places.{spot_of}
use Rattle.execute.specs.Execute.{execute_of}
use Rattle.bus.specs.Board.{real}
use Rattle.bus.specs.Access.{got_many, count}
use Rattle.bus.specs.Leave.{event_of, whole, listed}
use Rattle.bus.specs.Write.{kept}
use Rattle.cpu.specs.Program.{early, ins_of}
use Rattle.cpu.specs.Turns.{completed_turn}
use Rattle.cpu.proofs.Ways.{form_on, judge_on, operate_on, work_done}
use Rattle.kept.specs.Kept.{Reads, Writes}
use Rattle.served.specs.declared.kinds.Begun.{Begun}
use Rattle.served.specs.declared.kinds.Code.{Code}
use Rattle.served.specs.Served.{Fetched, before, behind, ins_at, Serves, Operand, Begins}
use Rattle.served.proofs.Bytes.{behind_is}

-- nothing is written
pub no_writes : (keeps w : List ℕ) → Writes keeps [] w w
unfolding b.after b.writes b.finish kept
no_writes keeps w u mmu ds R = record { ends = λ r q c e. refl; descriptors = refl; memory = refl }

count_same : (k : ℕ) → k ≤ 2 → count k ≡ k
unfolding count
count_same zero h = refl
count_same (suc zero) h = refl
count_same (suc (suc zero)) h = refl
count_same (suc (suc (suc k))) h = absurd (omega arith)

pub op_at : (k : ℕ) (r : Regs) (q : Code) (w : List ℕ) (i : Ins) → i ≡ ins_at k r q w → i.op ≡ op_in q.e
unfolding ins_of
op_at k r q w i e = rw e

module _ (keeps w l : List ℕ) (u : Bool) (r : Regs) (q : Code) (F : Fetched keeps w q) (v : ℕ) where
  abbrev I : Ins
  I = ins_at (bytes_in q.e) r q w

  abbrev S : Spot
  S = spot_of u r (ins_at (bytes_in q.e) r q w)

  -- an operation that no event ends and that governs nothing, with at most two bytes behind its code; its operand is v, and what it writes is written
  pub serves : (D : Done) → 24 ≤ op_in q.e → bytes_in q.e ≤ 2 → Operand keeps w S v → v < 4294967296 → D ≡ execute_of (with_pc I.next r) u I S v →
      Writes keeps (listed D.write) w l → Serves keeps u r q w l D.regs
  unfolding early ins_of b.after b.finish event_of
  serves D h24 h2 hr hv hd hw c mmu ds eu R =
      form_on r c mmu ds w q.o q.b (before q w) q.at q.e (bytes_in q.e) (behind (bytes_in q.e) w q.p) (got_many (bytes_in q.e) u mmu ds w true q.at) I A
      F.entry (le-ltb q.e 2048 (omega arith)) refl (ap (λ z. got_many (bytes_in q.e) z mmu ds w true q.at) eu ∙ ap (λ z. got_many z (user_of c) mmu ds w true q.at) (sym (count_same (bytes_in q.e) h2))) (behind_is keeps w q F (bytes_in q.e) (omega arith) u mmu ds R) refl
      (judge_on r c mmu ds w I None u S A (rw t24) refl eu refl
      (operate_on r c mmu ds w I S v (got_many (count S.n) u mmu ds w S.program S.a) A (ap (λ z. got_many (count S.n) z mmu ds w S.program S.a) eu) (hr u mmu ds R)
      (work_done r c mmu ds w I S (v % 4294967296) (with_pc I.next r) u D A refl t24 eu (hd ∙ ap (λ z. execute_of (with_pc I.next r) u I S z) v32) ((hw u mmu ds R).ends r D.regs c (sym eu)))))
    where
      A : b.Answer real
      A = whole (completed_turn D.regs c mmu) ds l

      v32 : v ≡ v % 4294967296
      v32 = omega arith

      t24 : ltb (op_in q.e) 24 ≡ false
      t24 = le-ltb (op_in q.e) 24 h24

-- the same of what a step began with and of the registers t behind the instruction
pub does : (keeps w l : List ℕ) (u : Bool) (r : Regs) (q : Code) (F : Fetched keeps w q) (b : Begun) (t : Regs) (D : Done) → Begins keeps u r q w b → t ≡ with_pc b.i.next r →
    b.v < 4294967296 → D ≡ execute_of t u b.i b.s b.v → Writes keeps (listed D.write) w l → Serves keeps u r q w l D.regs
does keeps w l u r q F b t D B et hv hd hw =
    let e : b.s ≡ spot_of u r (ins_at (bytes_in q.e) r q w) = B.spot ∙ ap (λ z. spot_of u r z) B.ins in
    let o : Operand keeps w (spot_of u r (ins_at (bytes_in q.e) r q w)) b.v = rw e at B.operand in
    let h24 : 24 ≤ op_in q.e = search rules in
    let h2 : bytes_in q.e ≤ 2 = search rules in
    serves keeps w l u r q F b.v D h24 h2 o hv (hd ∙ rw (et, e, B.ins)) hw

-- an operand of n bytes by data
pub counted : (keeps w : List ℕ) (s : Spot) (n : ℕ) (x : Option ℕ) → s.program ≡ false → s.n ≡ n → count n ≡ n → IfSome x (λ v. Reads keeps w n s.a v) →
    IfSome x (λ v. Operand keeps w s v)
counted keeps w s n None p e k h = h
counted keeps w s n (Some v) p e k h = λ user mmu ds right. rw (p, e, k) (h user mmu ds right)
