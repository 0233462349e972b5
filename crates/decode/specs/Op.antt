-- The operations by number: a mnemonic with its kind of operand. Which register, which of the eight, which condition, which bit stands in the operation code. 0 is no instruction.
use Rattle.std.specs.Prelude.{ℕ}

-- what is not executed
abbrev pub left_out : ℕ
left_out = 1

abbrev pub extended : ℕ
extended = 2

abbrev pub opens : ℕ
opens = 3

-- those that end in an event; ports by what the port is made of
abbrev pub halt : ℕ
halt = 4

abbrev pub sc : ℕ
sc = 5

abbrev pub in_n : ℕ
in_n = 6

abbrev pub out_n : ℕ
out_n = 7

abbrev pub in_c : ℕ
in_c = 8

abbrev pub out_c : ℕ
out_c = 9

abbrev pub in_block : ℕ
in_block = 10

abbrev pub out_block : ℕ
out_block = 11

-- privileged, on control registers
abbrev pub di : ℕ
di = 16

abbrev pub ei : ℕ
ei = 17

abbrev pub di_n : ℕ
di_n = 18

abbrev pub ei_n : ℕ
ei_n = 19

abbrev pub ldctl_xx_c : ℕ
ldctl_xx_c = 20

abbrev pub ldctl_c_xx : ℕ
ldctl_c_xx = 21

abbrev pub ldctl_usp : ℕ
ldctl_usp = 22

abbrev pub retil : ℕ
retil = 23

-- 8 bit load
abbrev pub ex_a_r : ℕ
ex_a_r = 24

abbrev pub ex_a_m : ℕ
ex_a_m = 25

abbrev pub ex_h_l : ℕ
ex_h_l = 26

abbrev pub ld_a_m : ℕ
ld_a_m = 27

abbrev pub ld_m_a : ℕ
ld_m_a = 28

abbrev pub ld_r_n : ℕ
ld_r_n = 29

abbrev pub ld_m_n : ℕ
ld_m_n = 30

abbrev pub ld_r_r : ℕ
ld_r_r = 31

abbrev pub ld_r_m : ℕ
ld_r_m = 32

abbrev pub ld_m_r : ℕ
ld_m_r = 33

-- 16 bit load and exchange
abbrev pub ex_de_hl : ℕ
ex_de_hl = 34

abbrev pub ex_xy_hl : ℕ
ex_xy_hl = 35

abbrev pub ex_sp : ℕ
ex_sp = 36

abbrev pub ex_af : ℕ
ex_af = 37

abbrev pub exx : ℕ
exx = 38

abbrev pub ld_xx_m : ℕ
ld_xx_m = 39

abbrev pub ld_m_xx : ℕ
ld_m_xx = 40

abbrev pub ld_rr_nn : ℕ
ld_rr_nn = 41

abbrev pub ld_rr_m : ℕ
ld_rr_m = 42

abbrev pub ld_m_rr : ℕ
ld_m_rr = 43

abbrev pub ldw_m_nn : ℕ
ldw_m_nn = 44

abbrev pub ld_sp_xx : ℕ
ld_sp_xx = 45

abbrev pub lda : ℕ
lda = 46

abbrev pub pop_rr : ℕ
pop_rr = 47

abbrev pub pop_m : ℕ
pop_m = 48

abbrev pub push_rr : ℕ
push_rr = 49

abbrev pub push_nn : ℕ
push_nn = 50

abbrev pub push_m : ℕ
push_m = 51

-- block
abbrev pub cpd : ℕ
cpd = 52

abbrev pub cpdr : ℕ
cpdr = 53

abbrev pub cpi : ℕ
cpi = 54

abbrev pub cpir : ℕ
cpir = 55

abbrev pub ldd : ℕ
ldd = 56

abbrev pub lddr : ℕ
lddr = 57

abbrev pub ldi : ℕ
ldi = 58

abbrev pub ldir : ℕ
ldir = 59

-- 8 bit arithmetic and logic
abbrev pub alu_r : ℕ
alu_r = 60

abbrev pub alu_n : ℕ
alu_n = 61

abbrev pub alu_m : ℕ
alu_m = 62

abbrev pub cpl : ℕ
cpl = 63

abbrev pub dec_r : ℕ
dec_r = 64

abbrev pub dec_m : ℕ
dec_m = 65

abbrev pub exts_a : ℕ
exts_a = 66

abbrev pub inc_r : ℕ
inc_r = 67

abbrev pub inc_m : ℕ
inc_m = 68

abbrev pub mult_r : ℕ
mult_r = 69

abbrev pub mult_n : ℕ
mult_n = 70

abbrev pub mult_m : ℕ
mult_m = 71

abbrev pub neg_a : ℕ
neg_a = 72

-- 16 bit arithmetic
abbrev pub adc_xx_rr : ℕ
adc_xx_rr = 73

abbrev pub add_xx_rr : ℕ
add_xx_rr = 74

abbrev pub add_xx_a : ℕ
add_xx_a = 75

abbrev pub aluw_rr : ℕ
aluw_rr = 76

abbrev pub aluw_nn : ℕ
aluw_nn = 77

abbrev pub aluw_m : ℕ
aluw_m = 78

abbrev pub decw_rr : ℕ
decw_rr = 79

abbrev pub decw_m : ℕ
decw_m = 80

abbrev pub exts_hl : ℕ
exts_hl = 81

abbrev pub incw_rr : ℕ
incw_rr = 82

abbrev pub incw_m : ℕ
incw_m = 83

abbrev pub multw_rr : ℕ
multw_rr = 84

abbrev pub multw_nn : ℕ
multw_nn = 85

abbrev pub multw_m : ℕ
multw_m = 86

abbrev pub neg_hl : ℕ
neg_hl = 87

abbrev pub sbc_xx_rr : ℕ
sbc_xx_rr = 88

-- bits, rotates, shifts
abbrev pub bit_r : ℕ
bit_r = 89

abbrev pub bit_m : ℕ
bit_m = 90

abbrev pub res_r : ℕ
res_r = 91

abbrev pub res_m : ℕ
res_m = 92

abbrev pub rot_r : ℕ
rot_r = 93

abbrev pub rot_m : ℕ
rot_m = 94

abbrev pub rot_a : ℕ
rot_a = 95

abbrev pub set_r : ℕ
set_r = 96

abbrev pub set_m : ℕ
set_m = 97

abbrev pub tset_r : ℕ
tset_r = 98

abbrev pub tset_m : ℕ
tset_m = 99

-- program control
abbrev pub call : ℕ
call = 100

abbrev pub call_cc : ℕ
call_cc = 101

abbrev pub ccf : ℕ
ccf = 102

abbrev pub djnz : ℕ
djnz = 103

abbrev pub jaf : ℕ
jaf = 104

abbrev pub jar : ℕ
jar = 105

abbrev pub jp : ℕ
jp = 106

abbrev pub jp_cc : ℕ
jp_cc = 107

abbrev pub jp_xx : ℕ
jp_xx = 108

abbrev pub jr : ℕ
jr = 109

abbrev pub jr_cc : ℕ
jr_cc = 110

abbrev pub ret : ℕ
ret = 111

abbrev pub ret_cc : ℕ
ret_cc = 112

abbrev pub rst : ℕ
rst = 113

abbrev pub scf : ℕ
scf = 114

-- control
abbrev pub nop : ℕ
nop = 115
