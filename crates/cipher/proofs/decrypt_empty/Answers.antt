use Rattle.std.proofs.Common.{ℕ, ◌≡◌, length, refl, ap, ◌∙◌}
use borrow.Author.Rules.{rules}
use lib.ListN.{replicate}
use Rattle.paper.specs.Figure6.{E}
use Rattle.key.specs.Meaning.{blocks}
use Rattle.cipher.proofs.Branches.{empty_opens}
use Rattle.cipher.proofs.decrypt_empty.Goals as goal

pub returns : goal.returns
returns c =
    let a = c.args in
    let C = a.sealed.now in
    let right = c.same_bytes-right in
    let zeros : c.fill.new.self ≡ replicate (length c.prf.new.out) 0 = search rules in (
      empty_opens (E (blocks a.k)) a.delta (length C) C c.prf.new.out (length a.out.now) right.result refl c.requires.0 c.prf.ensures right.ensures,
      zeros ∙ ap (λ (n : ℕ). replicate n 0) c.prf.auto.out,
    )
