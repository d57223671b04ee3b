-- Each return is one case of the definition.
use Rattle.std.proofs.Common.{◌≡◌, ◌∙◌, ap, sym, ℕ, Fits, w8, get_or, [], arith}
use Rattle.std.proofs.lemmas.Result.{err_from_is_err_and}
use Rattle.std.specs.Option.{ok_or}
use Rattle.paper.specs.Strings.{Bytes, Below}
use Rattle.laws.proofs.Digits.{below_of}
use Rattle.answer.specs.declared.Refusal.TheVariants.{NoLocale}
use Rattle.pause_mark.proofs.FourStrings.{strings_read, not_read, other_count, begun, never_bad, goes_on, own_part, marked_by}
use Rattle.pause_mark.proofs.header_mark.Goals as goal

low : (h : Bytes) → ((i : ℕ) → Fits w8 (get_or h i 0)) → Below 256 h
low h fits = below_of 256 h (λ i p. omega (arith, fits i))

pub returns-in_err-n : goal.returns-in_err-n
returns-in_err-n c =
    let p = err_from_is_err_and c.from_residual.result c.from_residual.ensures.1 in
    rw (p.1, p.2) (not_read c.args.header.now _ c.in_err-n.ensures)

pub returns-then-n-ne-ITEMS : goal.returns-then-n-ne-ITEMS
returns-then-n-ne-ITEMS c =
    let ss = strings_read c.args.header.now c.in_ok-n.n c.in_ok-n.ensures in
    other_count _ ss.0 ss.1 (λ four. c.if-n-ne-ITEMS.true (sym ss.2 ∙ four))

pub loop-init : goal.loop-init
loop-init c =
    let ss = strings_read c.args.header.now c.in_ok-n.n c.in_ok-n.ensures in
    begun c.args.header.now ss.0 (low c.args.header.now c.type_inv.header) ss.1 (ss.2 ∙ c.if-n-ne-ITEMS.false)

pub returns-in_default : goal.returns-in_default
returns-in_default c =
    absurd (never_bad c.args.header.now (low c.args.header.now c.type_inv.header) c.loop.counter c.loop.at (omega arith) c.loop.invariant c.in_default.ensures.value)

pub loop-preserved : goal.loop-preserved
loop-preserved c =
    goes_on c.args.header.now (low c.args.header.now c.type_inv.header) c.loop.counter c.loop.at (omega arith) c.loop.invariant c.in-Some.place c.in-Some.ensures.value

pub returns-in_default-entry : goal.returns-in_default-entry
returns-in_default-entry c =
    absurd (never_bad c.args.header.now (low c.args.header.now c.type_inv.header) c.loop.counter c.loop.at (omega arith) c.loop.invariant c.in_default-entry.ensures.value)

pub returns : goal.returns
returns c =
    let h = c.args.header.now in
    let w = c.loop.invariant in
    let last : c.loop.counter ≡ 3 = omega arith in
    let fourth = own_part h (low h c.type_inv.header) c.loop.counter c.loop.at (omega arith) w c.in-Some-entry.place c.in-Some-entry.ensures.value ∙ ap (λ (k : ℕ). get_or w.strings k []) last in
    let e = marked_by h _ w.strings w.reads w.four fourth in
    c.ok_or.ensures.value ∙ ap (λ o. ok_or o NoLocale) c.mark_of.ensures ∙ sym e
