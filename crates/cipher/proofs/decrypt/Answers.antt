use Rattle.std.proofs.Common.{true, false, ◌≡◌, length, sym, ◌∙◌, arith}
use borrow.Author.Rules.{rules}
use lib.Arith.{lt_of_le-ne}
use lib.ListN.{replicate}
use Rattle.paper.specs.Figure6.{E}
use Rattle.key.specs.Meaning.{blocks}
use Rattle.cipher.proofs.Branches.{put_all, empty_answer, answer}
use Rattle.cipher.proofs.decrypt.Goals as goal

pub returns-then-n-stretch : goal.returns-then-n-stretch
returns-then-n-stretch c =
    let a = c.args in
    let d = c.decrypt_empty in
    empty_answer (E (blocks a.k)) a.delta a.stretch a.sealed.now d.result (length a.out.now) d.new.out c.if-n-stretch.true c.requires.0 d.ensures.0 d.ensures.1

pub returns-then-same_bytes : goal.returns-then-same_bytes
returns-then-same_bytes c =
    let a = c.args in
    let d = c.cipher_in_place in
    let more = lt_of_le-ne (omega (arith, c.requires.0, c.requires.2)) (λ e. c.if-n-stretch.false (sym e)) in
    answer (E (blocks a.k)) a.delta a.stretch a.sealed.now c.copy.new.s d.new.s (put_all a.sealed.now a.out.now c.copy.new.s c.copy.ensures c.requires.0) d.ensures d.auto.s more
    c.same_bytes.result true c.if-same_bytes.true c.requires.3 c.same_bytes.ensures

pub returns : goal.returns
returns c =
    let a = c.args in
    let d = c.cipher_in_place in
    let more = lt_of_le-ne (omega (arith, c.requires.0, c.requires.2)) (λ e. c.if-n-stretch.false (sym e)) in
    let no =
    answer (E (blocks a.k)) a.delta a.stretch a.sealed.now c.copy.new.s d.new.s (put_all a.sealed.now a.out.now c.copy.new.s c.copy.ensures c.requires.0) d.ensures d.auto.s more
    c.same_bytes.result false c.if-same_bytes.false c.requires.3 c.same_bytes.ensures in
    let zeros : c.fill.new.self ≡ replicate (length d.new.s) 0 = search rules in
    (no.0, zeros ∙ no.1)
