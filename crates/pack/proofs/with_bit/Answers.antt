-- `with_bit`: the kept bits are fewer than 2 ^ r, so the shift loses nothing.
use Rattle.pack.proofs.Bits.{with_bit_lt, with_bit_shl}
use Rattle.pack.proofs.with_bit.Goals as goal

pub returns : goal.returns
returns c =
    let a = c.args in
    with_bit_shl a.x a.r a.b c.ranges.x.fits c.requires.0 c.requires.1

pub overflow_cast-result-4 : goal.overflow_cast-result-4
overflow_cast-result-4 c =
    let a = c.args in
    record { fits = rw (returns c) (with_bit_lt a.x a.r a.b c.ranges.x.fits c.requires.0 c.requires.1) }
