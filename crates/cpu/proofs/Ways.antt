-- A law for each way out of a stage, over plain values: a way's facts in, the execution of the stage's program out.
use Prim.Native.Nat.{ℕ, zero, suc, ◌%◌}
use Rattle.std.specs.Prelude.{Result, Ok, Err, ⊤, Option, Some, None}
use mathlib.Core.Path.{◌≡◌, refl, sym, ◌∙◌, ap}
use mathlib.Core.Bool.{Bool, true, false}
use mathlib.Core.List.{List}
use lib.Dec.{ltb}
use Rattle.board.specs.Program as b
use Rattle.board.specs.declared.Fault.{Fault}
use Rattle.regs.specs.declared.Regs.{Regs}
use Rattle.regs.specs.declared.Control.{Control}
use Rattle.regs.specs.Change.{with_pc}
use Rattle.regs.specs.Select.{user_of}
use Rattle.decode.specs.Opening.{entered}
use Rattle.decode.specs.Entry.{bytes_in}
use Rattle.plan.specs.declared.kinds.Stop.{Stop}
use Rattle.plan.specs.declared.kinds.Ins.{Ins}
use Rattle.plan.specs.declared.kinds.Spot.{Spot}
use Rattle.plan.specs.declared.kinds.Early.{Early}
use Rattle.plan.specs.declared.kinds.Done.{Done}
use Rattle.plan.specs.declared.kinds.Governed.{Governed}
use Rattle.plan.specs.Places.{spot_of}
use Rattle.plan.specs.Kinds.{quiet}
use Rattle.execute.specs.Execute.{execute_of}
use Rattle.execute.specs.Tried.{swaps, tried_of}
use Rattle.execute.proofs.Apart.{known_is, left_swaps}
use Rattle.govern.specs.Govern.{govern_of}
use Rattle.bus.specs.declared.kinds.Turn.{Turn}
use Rattle.bus.specs.declared.kinds.Event.TheVariants.{Stopped}
use Rattle.bus.specs.Board.{real}
use Rattle.bus.specs.Access.{next, read_from, and_then, got_many, joined, count}
use Rattle.bus.specs.Leave.{event_of, state_of, whole, denial, listed}
use Rattle.bus.specs.Write.{kept, Wrote}
use Rattle.bus.proofs.Faults.{after_fault}
use Rattle.cpu.specs.declared.kinds.Lead.{Lead}
use Rattle.cpu.specs.Program.{read_n, finished, ruled, worked, operated, went, early, judged, missing, ins_of, classed, formed, program}
use Rattle.cpu.specs.Lead.{lead_of}
use Rattle.cpu.specs.Turns.{completed_turn}
use Rattle.cpu.proofs.Leads.{on_lead, exec_leading}

-- ── several bytes are one access ──

after_then : (s : b.State real) (g : Result ℕ Fault) (h : ℕ → Result ℕ Fault) (f : ℕ → b.Answer real) →
    b.after s (and_then g h) f ≡ b.after s g (λ x. b.after s (h x) f)
unfolding b.after and_then
after_then s (Ok x) h f = refl
after_then s (Err e) h f = after_fault s e f ∙ sym (after_fault s e (λ x. b.after s (h x) f))

module _ (r : Regs) (c : Control) (mmu : ℕ) (ds w : List ℕ) where
  s : b.State real
  s = state_of r c mmu ds w

  got : ℕ → Bool → ℕ → Result ℕ Fault
  got n k a = got_many n (user_of c) mmu ds w k a

  exec_many : (n : ℕ) (k : Bool) (a : ℕ) (f : ℕ → b.Prog real) → b.exec (read_n n k a f) s ≡ b.after s (got n k a) (λ v. b.exec (f v) s)
  unfolding read_n got_many b.exec b.after b.read_byte read_from s got
  exec_many zero k a f = refl
  exec_many (suc n) k a f = go (read_from (user_of c) mmu ds w k a) (λ x. exec_many n k (next a) (λ v. f (joined x v)))
    where
      go : (g : Result ℕ Fault) →
          ((x : ℕ) → b.exec (read_n n k (next a) (λ v. f (joined x v))) s ≡ b.after s (got n k (next a)) (λ v. b.exec (f (joined x v)) s)) →
          b.after s g (λ x. b.exec (read_n n k (next a) (λ v. f (joined x v))) s) ≡
          b.after s (and_then g (λ x. and_then (got n k (next a)) (λ v. Ok (joined x v)))) (λ v. b.exec (f v) s)
      go (Ok x) h = h x ∙ sym (unfold b.after and_then in after_then s (got n k (next a)) (λ v. Ok (joined x v)) (λ v. b.exec (f v) s))
      go (Err e) h =
          after_fault s e (λ x. b.exec (read_n n k (next a) (λ v. f (joined x v))) s) ∙ sym (unfold and_then in after_fault s e (λ v. b.exec (f v) s))

  many_fault : (n : ℕ) (k : Bool) (a : ℕ) (f : ℕ → b.Prog real) (e : Fault) → got n k a ≡ Err e → denial s e ≡ b.exec (read_n n k a f) s
  many_fault n k a f e h = sym (exec_many n k a f ∙ ap (λ x. b.after s x (λ x. b.exec (f x) s)) h ∙ after_fault s e (λ x. b.exec (f x) s))

  many_on : (n : ℕ) (k : Bool) (a v : ℕ) (f : ℕ → b.Prog real) (g : Result ℕ Fault) (x : b.Answer real) → g ≡ got n k a → g ≡ Ok v →
      x ≡ b.exec (f v) s → x ≡ b.exec (read_n n k a f) s
  unfolding b.after
  many_on n k a v f g x e h p = p ∙ ap (λ y. b.after s y (λ x. b.exec (f x) s)) (sym h ∙ e) ∙ sym (exec_many n k a f)

  -- ── attempt ──

  pub turn_code : (l : Lead) (y : b.Answer real) → lead_of (user_of c) mmu ds w r.pc ≡ Ok l →
      y ≡ b.exec (formed r c l.opening l.code l.displacement l.at) (state_of r c mmu ds w) → y ≡ b.exec (program r c) (state_of r c mmu ds w)
  unfolding program on_lead
  turn_code l y e p =
      p ∙ sym (exec_leading r c mmu ds w (formed r c) r.pc ∙ ap (λ z. on_lead (state_of r c mmu ds w) z (λ o x d at. b.exec (formed r c o x d at) (state_of r c mmu ds w))) e)

  pub turn_fault : (e : Fault) → lead_of (user_of c) mmu ds w r.pc ≡ Err e → denial (state_of r c mmu ds w) e ≡ b.exec (program r c) (state_of r c mmu ds w)
  unfolding program on_lead
  turn_fault e h =
      sym (exec_leading r c mmu ds w (formed r c) r.pc ∙ ap (λ z. on_lead (state_of r c mmu ds w) z (λ o x d at. b.exec (formed r c o x d at) (state_of r c mmu ds w))) h)

  -- ── form ──

  pub form_ends : (o x d at e : ℕ) (z : Stop) → e ≡ entered o x → ltb e 2048 ≡ true → z ≡ missing r c e →
      whole (record { regs = r; ctl = c; mmu = mmu; event = Stopped z }) ds w ≡ b.exec (formed r c o x d at) (state_of r c mmu ds w)
  unfolding formed classed b.exec b.halted event_of
  form_ends o x d at e z h l y = rw (← h, l, y)

  pub form_fault : (o x d at e : ℕ) (z : Fault) → e ≡ entered o x → ltb e 2048 ≡ false →
      got_many (count (bytes_in e)) (user_of c) mmu ds w true at ≡ Err z → denial (state_of r c mmu ds w) z ≡ b.exec (formed r c o x d at) (state_of r c mmu ds w)
  unfolding formed classed s got
  form_fault o x d at e z h l y = rw (← h, l) (many_fault (count (bytes_in e)) true at (λ n. judged r c (ins_of r o x d e at n)) z y)

  pub form_on : (o x d at e m n : ℕ) (g : Result ℕ Fault) (i : Ins) (a : b.Answer real) → e ≡ entered o x → ltb e 2048 ≡ false → m ≡ bytes_in e →
      g ≡ got_many (count m) (user_of c) mmu ds w true at → g ≡ Ok n → i ≡ ins_of r o x d e at n →
      a ≡ b.exec (judged r c i) (state_of r c mmu ds w) → a ≡ b.exec (formed r c o x d at) (state_of r c mmu ds w)
  unfolding formed classed s got
  form_on o x d at e m n g i a h l q y z u p =
      rw (← h, l, ← q) (many_on (count m) true at n (λ n. judged r c (ins_of r o x d e at n)) g a y z (rw (← u) p))

  -- ── judge ──

  pub judge_ends : (i : Ins) (e : Early) → early r c i ≡ Some e →
      whole (record { regs = with_pc e.pc r; ctl = c; mmu = mmu; event = Stopped e.stop }) ds w ≡ b.exec (judged r c i) (state_of r c mmu ds w)
  unfolding judged went b.exec b.halted event_of
  judge_ends i e h = rw h

  pub judge_on : (i : Ins) (e : Option Early) (u : Bool) (p : Spot) (x : b.Answer real) → e ≡ early r c i → e ≡ None → u ≡ user_of c → p ≡ spot_of u r i →
      x ≡ b.exec (operated r c i p) (state_of r c mmu ds w) → x ≡ b.exec (judged r c i) (state_of r c mmu ds w)
  unfolding judged went
  judge_on i e u p x h l y q k = k ∙ rw (← h, l, q, y)

  -- ── operate ──

  pub operate_fault : (i : Ins) (p : Spot) (e : Fault) → got_many (count p.n) (user_of c) mmu ds w p.program p.a ≡ Err e →
      denial (state_of r c mmu ds w) e ≡ b.exec (operated r c i p) (state_of r c mmu ds w)
  unfolding operated s got
  operate_fault i p e h = many_fault (count p.n) p.program p.a (λ v. worked r c i p (v % 4294967296)) e h

  pub operate_on : (i : Ins) (p : Spot) (v : ℕ) (g : Result ℕ Fault) (x : b.Answer real) → g ≡ got_many (count p.n) (user_of c) mmu ds w p.program p.a → g ≡ Ok v →
      x ≡ b.exec (worked r c i p (v % 4294967296)) (state_of r c mmu ds w) → x ≡ b.exec (operated r c i p) (state_of r c mmu ds w)
  unfolding operated s got
  operate_on i p v g x y z k = many_on (count p.n) p.program p.a v (λ v. worked r c i p (v % 4294967296)) g x y z k

  -- ── work ──

  pub work_rules : (i : Ins) (p : Spot) (v : ℕ) (q : Regs) (g : Governed) (t : Turn) → q ≡ with_pc i.next r → ltb i.op 24 ≡ true → g ≡ govern_of q c i v →
      ((es n : List ℕ) → whole t es n ≡ b.exec (ruled g) (state_of r c mmu es n)) → whole t ds w ≡ b.exec (worked r c i p v) (state_of r c mmu ds w)
  unfolding worked
  work_rules i p v q g t h l y k = k ds w ∙ rw (l, y, h)

  pub work_done : (i : Ins) (p : Spot) (v : ℕ) (q : Regs) (u : Bool) (d : Done) (x : b.Answer real) → q ≡ with_pc i.next r → ltb i.op 24 ≡ false → u ≡ user_of c →
      d ≡ execute_of q u i p v → x ≡ b.writes (state_of r c mmu ds w) d.regs (listed d.write) ds w → x ≡ b.exec (worked r c i p v) (state_of r c mmu ds w)
  unfolding worked finished b.exec
  work_done i p v q u d x h l y z k = k ∙ rw (l, z, y, h)

  module _ (i : Ins) (p : Spot) (v : ℕ) (q : Regs) (u : Bool) (eu : u ≡ user_of c) (eq : q ≡ with_pc i.next r) (o24 : ltb i.op 24 ≡ false) where
    pub work_swap : (x : Regs) → tried_of q u i p v ≡ None → (swaps i.op ≡ true → (u : Bool) (s : Spot) (v : ℕ) → quiet x ≡ execute_of q u i s v) →
        whole (completed_turn x c mmu) ds w ≡ b.exec (worked r c i p v) (state_of r c mmu ds w)
    unfolding listed b.writes b.finish event_of
    work_swap x k s =
        work_done i p v q u (quiet x) (whole (completed_turn x c mmu) ds w) eq o24 eu (s (left_swaps q u i p v o24 k) u p v) refl

    module _ (d : Done) (k : tried_of q u i p v ≡ Some d) (g : Result ⊤ Fault) (es l : List ℕ) (x : Wrote u mmu (listed d.write) g ds w es l) where
      pub work_fault : (e : Fault) → g ≡ Err e → denial (state_of r c mmu es l) e ≡ b.exec (worked r c i p v) (state_of r c mmu ds w)
      unfolding kept
      work_fault e h =
          let y : kept (Err e) ds es ≡ es = rw h at x.descriptors in
          let z : kept (Err e) w l ≡ l = rw h at x.memory in
          rw (← y, ← z) (work_done i p v q u d (denial (state_of r c mmu ds w) e) eq o24 eu (known_is q u i p v o24 d k) (rw h at (x.ends r d.regs c (sym eu))))

      pub work_end : (a : ⊤) → g ≡ Ok a → whole (completed_turn d.regs c mmu) es l ≡ b.exec (worked r c i p v) (state_of r c mmu ds w)
      unfolding b.finish event_of
      work_end a h = work_done i p v q u d (whole (completed_turn d.regs c mmu) es l) eq o24 eu (known_is q u i p v o24 d k) (rw h at (x.ends r d.regs c (sym eu)))
