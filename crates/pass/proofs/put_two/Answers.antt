use Rattle.std.proofs.Common.{◌≡◌, length}
use borrow.Author.Rules.{rules}
use Rattle.pass.proofs.Stores.{stored}
use Rattle.pass.proofs.put_two.Goals as goal

pub returns : goal.returns
returns c =
    let long : length c.args.a ≡ 16 = search rules in
    stored c.args.part.now c.args.a c.args.b c.store.new.s c.store-2.new.s c.requires long c.store.ensures c.store-2.ensures
