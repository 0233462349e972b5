-- The operand's place by the addressing mode (section 4.2, line 882), and how many bytes are read there.
use Rattle.std.specs.Prelude.{ℕ, Bool, true, false, cond, List, [], ◌∷◌, slice_index_or}
use Rattle.regs.specs.declared.Regs.{Regs}
use Rattle.regs.specs.Select.{index_of, sp_of, condition_of}
use Rattle.products.specs.Products.{displaced}
use Rattle.plan.specs.declared.kinds.Ins.{Ins}
use Rattle.plan.specs.declared.kinds.Spot.{Spot}
use Rattle.plan.specs.Kinds.{bits53, plus, byte, word}

-- by data; by program
abbrev pub data_at : ℕ → ℕ → Spot
data_at n a = record { program = false; a = a; n = n }

abbrev pub code_at : ℕ → ℕ → Spot
code_at n a = record { program = true; a = a; n = n }

-- the condition in bits 5 to 3 of the operation code: NZ Z NC C PO PE P M
abbrev pub met : Regs → Ins → Bool
met r i = condition_of (bits53 i) r

-- RET cc, line 5881: the top of the stack, where the condition holds; else nothing is read
unfoldable pub returning : Bool → Regs → Ins → Spot
returning u r i = data_at (cond (met r i) 2 0) (sp_of u r)

-- none, IR, DA, SX, X (IX, IY, HL), RA, SR, BX (HL + IX, HL + IY, IX + IY), (BC), (DE), (SP), and (SP) under a condition.
-- RA counts from the next instruction and goes by program (lines 1041, 7900); all others go by data.
abbrev pub spots : Bool → Regs → Ins → ℕ → List Spot
spots u r i n =
    data_at n 0 ∷
    data_at n r.hl ∷
    data_at n (word i.arg) ∷
    data_at n (displaced (index_of i.opening r) (byte i.arg)) ∷
    data_at n (plus r.ix (word i.arg)) ∷
    data_at n (plus r.iy (word i.arg)) ∷
    data_at n (plus r.hl (word i.arg)) ∷
    code_at n (plus i.next (word i.arg)) ∷
    data_at n (plus (sp_of u r) (word i.arg)) ∷
    data_at n (plus r.hl r.ix) ∷
    data_at n (plus r.hl r.iy) ∷
    data_at n (plus r.ix r.iy) ∷
    data_at n r.bc ∷
    data_at n r.de ∷
    data_at n (sp_of u r) ∷
    returning u r i ∷
    []

unfoldable pub spot_of : Bool → Regs → Ins → Spot
spot_of u r i = slice_index_or (spots u r i i.reads) i.mode (data_at i.reads 0)
