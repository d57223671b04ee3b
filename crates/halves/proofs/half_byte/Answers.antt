-- The higher half-byte of each byte stands first.
use Rattle.std.proofs.Common.{arith, sym}
use Rattle.halves.proofs.ByteHalves.{half_bytes_even, half_bytes_odd}
use Rattle.halves.proofs.half_byte.Goals as goal

pub returns-then-j-eq0 : goal.returns-then-j-eq0
returns-then-j-eq0 c = sym (half_bytes_even c.args.s.now c.args.j c.if-j-eq0.true)

pub returns-else-j-eq0 : goal.returns-else-j-eq0
returns-else-j-eq0 c = sym (half_bytes_odd c.args.s.now c.args.j (omega (arith, c.if-j-eq0.false)))
