-- The block is put behind those that wait; where the group is full, these are summed, and it is put first.
use Rattle.std.proofs.Common.{◌≡◌, ap, arith, length, rules, ◌∙◌}
use Rattle.paper.specs.Strings.{Bytes, ◌⊕◌}
use Rattle.paper.specs.Section7.{AES4}
use Rattle.paper.specs.Figure6.{k0}
use Rattle.columns.specs.Columns.{block_of}
use Rattle.tbc.specs.Meaning.{base}
use Rattle.strings.proofs.Waits.{more_waits, one_waits}
use Rattle.strings.proofs.Sum.add_block.Goals as goal

pub returns-then-self-lt16 : goal.returns-then-self-lt16
returns-then-self-lt16 c =
    let s = c.args.self.now in
    let long : length s.group ≡ 16 = search rules in
    more_waits (k0 (base c.args.k)) s.group s.waiting c.args.x s.total (omega arith)

pub returns-else-self-lt16 : goal.returns-else-self-lt16
returns-else-self-lt16 c =
    let s = c.args.self.now in
    let keys = k0 (base c.args.k) in
    let long : length s.group ≡ 16 = search rules in
    let sum : length c.hashed-self.result ≡ 16 = search rules in
    one_waits keys s.group c.args.x c.hashed-self.result (omega arith) (omega arith)
    ∙ ap (λ (S : Bytes). S ⊕ AES4 keys (block_of c.args.x)) c.hashed-self.ensures
