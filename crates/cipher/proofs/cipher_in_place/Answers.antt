use Rattle.paper.specs.Figure6.{E}
use Rattle.key.specs.Meaning.{blocks}
use Rattle.cipher.proofs.Branches.{by_core, by_tiny, by_tiny_back}
use Rattle.cipher.proofs.cipher_in_place.Goals as goal

pub returns-then-s-ge32 : goal.returns-then-s-ge32
returns-then-s-ge32 c =
    let a = c.args in
    by_core (E (blocks a.k)) a.delta a.s.now c.core_in_place.new.s a.way c.if-s-ge32.true c.core_in_place.ensures

pub returns-in-Encipher : goal.returns-in-Encipher
returns-in-Encipher c =
    let a = c.args in
    by_tiny (E (blocks a.k)) a.delta a.s.now c.encipher.new.s c.if-s-ge32.false a.way c.in-Encipher.is c.encipher.ensures

pub returns-in-Decipher : goal.returns-in-Decipher
returns-in-Decipher c =
    let a = c.args in
    by_tiny_back (E (blocks a.k)) a.delta a.s.now c.decipher.new.s c.if-s-ge32.false a.way c.in-Decipher.is c.decipher.ensures
