-- The stack of the mode; u is user mode. It goes by data.
use Rattle.std.specs.Prelude.{ℕ, Bool}
use Rattle.regs.specs.declared.Regs.{Regs}
use Rattle.regs.specs.Select.{sp_of, put_sp}
use Rattle.plan.specs.declared.kinds.Done.{Done}
use Rattle.plan.specs.Kinds.{stores_word, plus}
use Rattle.plan.specs.Places.{data_at}

-- SP ← SP - 2, (SP) ← v: PUSH, line 5815; CALL, line 2218; RST, line 6621
unfoldable pub pushed : Regs → Bool → ℕ → Done
pushed r u v = stores_word (put_sp u (plus (sp_of u r) 65534) r) (data_at 0 (plus (sp_of u r) 65534)) v

-- SP ← SP + 2, the word having been read: POP, line 5768; RET, line 5885
unfoldable pub popped : Regs → Bool → Regs
popped r u = put_sp u (plus (sp_of u r) 2) r
