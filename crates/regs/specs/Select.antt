-- The registers that the fields of an operation code name (Table 5-12, line 1676), under an opening sequence.
use Rattle.std.specs.Prelude.{ℕ, ◌+◌, ◌*◌, ◌/◌, ◌%◌, Bool, true, false, List, [], ◌∷◌, eqb, get_or}
use Rattle.regs.specs.declared.Regs.{Regs}
use Rattle.regs.specs.declared.Control.{Control}
use Rattle.regs.specs.Change.{with_af, with_bc, with_de, with_hl, with_ix, with_iy, with_ssp, with_usp}

-- the halves of a pair, and the pair with one of them changed
abbrev pub high : ℕ → ℕ
high w = w / 256

abbrev pub low : ℕ → ℕ
low w = w % 256

abbrev pub put_high : ℕ → ℕ → ℕ
put_high v w = v * 256 + w % 256

abbrev pub put_low : ℕ → ℕ → ℕ
put_low v w = w / 256 * 256 + v

-- A and F, and AF with one of them changed
abbrev pub a_of : Regs → ℕ
a_of r = high r.af

abbrev pub f_of : Regs → ℕ
f_of r = low r.af

abbrev pub put_a : ℕ → Regs → Regs
put_a v r = with_af (put_high v r.af) r

abbrev pub with_f : ℕ → Regs → Regs
with_f f r = with_af (put_low f r.af) r

-- HL, IX or IY by the opening: none, CB, ED, DD, FD, DD CB, FD CB, DD ED, FD ED
abbrev pub indexes : Regs → List ℕ
indexes r = r.hl ∷ r.hl ∷ r.hl ∷ r.ix ∷ r.iy ∷ r.ix ∷ r.iy ∷ r.ix ∷ r.iy ∷ []

unfoldable pub index_of : ℕ → Regs → ℕ
index_of o r = get_or (indexes r) o r.hl

abbrev pub put_indexes : ℕ → Regs → List Regs
put_indexes v r =
    with_hl v r ∷ with_hl v r ∷ with_hl v r ∷ with_ix v r ∷ with_iy v r ∷ with_ix v r ∷ with_iy v r ∷ with_ix v r ∷ with_iy v r ∷ []

unfoldable pub put_index : ℕ → ℕ → Regs → Regs
put_index o v r = get_or (put_indexes v r) o (with_hl v r)

-- B C D E H L, none, A; under DD and FD the halves of IX and IY stand for H and L (line 4253)
abbrev pub bytes : ℕ → Regs → List ℕ
bytes o r =
    high r.bc ∷ low r.bc ∷ high r.de ∷ low r.de ∷ high (index_of o r) ∷ low (index_of o r) ∷ 0 ∷ a_of r ∷ []

unfoldable pub byte_of : ℕ → ℕ → Regs → ℕ
byte_of o k r = get_or (bytes o r) k 0

abbrev pub put_bytes : ℕ → ℕ → Regs → List Regs
put_bytes o v r =
    with_bc (put_high v r.bc) r ∷
    with_bc (put_low v r.bc) r ∷
    with_de (put_high v r.de) r ∷
    with_de (put_low v r.de) r ∷
    put_index o (put_high v (index_of o r)) r ∷
    put_index o (put_low v (index_of o r)) r ∷
    r ∷
    put_a v r ∷
    []

unfoldable pub put_byte : ℕ → ℕ → ℕ → Regs → Regs
put_byte o k v r = get_or (put_bytes o v r) k r

-- the stack pointer of the mode
unfoldable pub sp_of : Bool → Regs → ℕ
sp_of true r = r.usp
sp_of false r = r.ssp

unfoldable pub put_sp : Bool → ℕ → Regs → Regs
put_sp true v r = with_usp v r
put_sp false v r = with_ssp v r

-- BC DE HL SP, with IX or IY in HL's place under their openings
abbrev pub pairs : Bool → ℕ → Regs → List ℕ
pairs u o r = r.bc ∷ r.de ∷ index_of o r ∷ sp_of u r ∷ []

unfoldable pub pair_of : Bool → ℕ → ℕ → Regs → ℕ
pair_of u o k r = get_or (pairs u o r) k 0

abbrev pub put_pairs : Bool → ℕ → ℕ → Regs → List Regs
put_pairs u o v r = with_bc v r ∷ with_de v r ∷ put_index o v r ∷ put_sp u v r ∷ []

unfoldable pub put_pair : Bool → ℕ → ℕ → ℕ → Regs → Regs
put_pair u o k v r = get_or (put_pairs u o v r) k r

-- BC DE HL AF: what PUSH and POP name
abbrev pub stackeds : ℕ → Regs → List ℕ
stackeds o r = r.bc ∷ r.de ∷ index_of o r ∷ r.af ∷ []

unfoldable pub stacked_of : ℕ → ℕ → Regs → ℕ
stacked_of o k r = get_or (stackeds o r) k 0

abbrev pub put_stackeds : ℕ → ℕ → Regs → List Regs
put_stackeds o v r = with_bc v r ∷ with_de v r ∷ put_index o v r ∷ with_af v r ∷ []

unfoldable pub put_stacked : ℕ → ℕ → ℕ → Regs → Regs
put_stacked o k v r = get_or (put_stackeds o v r) k r

-- NZ Z NC C PO PE P M (Table 5-1, line 1230): Z 40h, C 01h, P/V 04h, S 80h of F
abbrev pub conditions : Regs → List Bool
conditions r =
    eqb (r.af / 64 % 2) 0 ∷
    eqb (r.af / 64 % 2) 1 ∷
    eqb (r.af % 2) 0 ∷
    eqb (r.af % 2) 1 ∷
    eqb (r.af / 4 % 2) 0 ∷
    eqb (r.af / 4 % 2) 1 ∷
    eqb (r.af / 128 % 2) 0 ∷
    eqb (r.af / 128 % 2) 1 ∷
    []

unfoldable pub condition_of : ℕ → Regs → Bool
condition_of k r = get_or (conditions r) k false

-- the mode: MSR's user bit
abbrev pub user_of : Control → Bool
user_of c = eqb (c.msr / 0x4000 % 2) 1
