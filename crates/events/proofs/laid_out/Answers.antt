use Rattle.std.proofs.Common.{◌≡◌, ℕ, ◌/◌, arith}
use Rattle.events.specs.Bytes.{little, answer_bytes}
use Rattle.events.proofs.laid_out.Goals as goal

-- a division by 256 after another
third : (v : ℕ) → v / 65536 ≡ v / 256 / 256
third v = omega arith

fourth : (v : ℕ) → v / 16777216 ≡ v / 256 / 256 / 256
fourth v = omega arith

pub returns : goal.returns
unfolding answer_bytes little
returns c =
    let e = c.args.e in
    rw (
      c.to_le_bytes.ensures,
      c.to_le_bytes-2.ensures,
      c.to_le_bytes-3.ensures,
      c.to_le_bytes-4.ensures,
      third e.first,
      fourth e.first,
      third e.second,
      fourth e.second,
    )
