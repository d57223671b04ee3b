-- Whether the string opens, and where its text then lies.
use Rattle.std.proofs.Common.{◌≡◌, ◌≤◌, ◌∙◌, ap, sym, ℕ, length, Result, Ok, Err, refl, arith}
use Rattle.std.proofs.lemmas.List.{length-replicate}
use Rattle.std.proofs.Math.Seq.{length-take-le}
use Rattle.paper.specs.Document01.{OutcomeAt, opening}
use Rattle.answer.specs.declared.Refusal.{Refusal}
use Rattle.answer.specs.Outcomes.{answer_at, number_in}
use Rattle.answer.proofs.Refusals.{refuses}
use Rattle.ledger.proofs.Bytes.{below_256}
use Rattle.ledger.proofs.OpenedTexts.{Text, opened_text}
use Rattle.ledger.proofs.Taken.{no_text, by_text}
use Rattle.ledger.proofs.open_in.Goals as goal

not_0 : (r : Result ℕ Refusal) → ((n : ℕ) → r ≡ Ok n → ⊥) → number_in r ≡ 0 → ⊥
not_0 (Ok n) f e = f n refl
not_0 (Err r) f e = refuses r e

pub returns-in_default : goal.returns-in_default
returns-in_default c =
    let a = c.args in
    no_text a.key.now a.header.now a.stretch a.sealed.now (answer_at c.open.result) c.open.new.out a.out.now c.requires.1 c.open.ensures (not_0 c.open.result c.in_default.not-Ok)

-- the text lies within the output
inside : (c : goal.In-Ok) → c.in-Ok.length ≤ length c.open.new.out
inside c =
    let a = c.args in
    let e = c.in-Ok.ensures in
    let x : Text a.stretch a.sealed.now (opening a.key.now a.header.now a.stretch a.sealed.now a.out.now) =
    opened_text a.key.now a.header.now a.stretch a.sealed.now a.out.now (below_256 a.key.now c.type_inv.key) (below_256 a.header.now c.type_inv.header) (below_256 a.sealed.now c.type_inv.sealed) (sym (ap (λ (o : OutcomeAt). o.number) e)) in
    omega
    (arith, ap (λ (o : OutcomeAt). o.size) e, x.size, x.long, ap length c.requires.1, length-replicate {A = ℕ} (length a.sealed.now) 0, c.open.auto.out)

pub slice_bounds-read_text-end : goal.slice_bounds-read_text-end
slice_bounds-read_text-end c = inside c

pub slice_bounds-read_text-end-2 : goal.slice_bounds-read_text-end-2
slice_bounds-read_text-end-2 c = sym (length-take-le c.in-Ok.length c.open.new.out (inside c))

pub returns : goal.returns
returns c =
    let a = c.args in
    c.read_text.ensures
    ∙ by_text a.key.now a.header.now a.stretch a.sealed.now (answer_at (Ok c.in-Ok.length)) c.open.new.out a.out.now c.requires.1 c.in-Ok.ensures refl a.mark c.requires.0 _ refl
