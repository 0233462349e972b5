-- Exchanges of words. `r` the registers, PC past the instruction; `s` the operand's place, `v` the word read there.
use Rattle.std.specs.Prelude.{ℕ}
use Rattle.regs.specs.declared.Regs.{Regs}
use Rattle.regs.specs.Change.{with_de, with_hl, exchange_af, exchange_x}
use Rattle.regs.specs.Select.{index_of, put_index}
use Rattle.plan.specs.declared.kinds.Ins.{Ins}
use Rattle.plan.specs.declared.kinds.Spot.{Spot}
use Rattle.plan.specs.declared.kinds.Done.{Done}
use Rattle.plan.specs.Kinds.{quiet, stores_word, word}

-- EX DE,HL, line 3176
unfoldable pub ex_de_hl : Regs → Done
ex_de_hl r = quiet (with_de r.hl (with_hl r.de r))

-- EX XY,HL, line 3176
unfoldable pub ex_xy_hl : Regs → Ins → Done
ex_xy_hl r i = quiet (put_index i.opening r.hl (with_hl (index_of i.opening r) r))

-- EX (SP),HL and (SP),XY, line 3111: SP stays
unfoldable pub ex_sp : Regs → Ins → Spot → ℕ → Done
ex_sp r i s v = stores_word (put_index i.opening (word v) r) s (index_of i.opening r)

-- EX AF,AF', line 3105: F comes from F', and the bank bit turns over
unfoldable pub ex_af : Regs → Done
ex_af r = quiet (exchange_af r)

-- EXX, line 3357: BC, DE and HL with their alternates, and the bank bit turns over
unfoldable pub exx_of : Regs → Done
exx_of r = quiet (exchange_x r)
