use Rattle.std.proofs.Common.{Bool, true, false, ℕ, ◌≡◌, ap, sym, ◌∙◌, arith}
use borrow.Author.Tests.{lt-ltb, le-ltb}
use lib.Dec.{ltb}
use lib.ListN.{replicate}
use Rattle.std.specs.Prelude.{if◌then◌else◌}
use Rattle.paper.specs.Figure6.{Key}
use Rattle.groups.specs.Groups.{keys_of}
use Rattle.tbc.specs.Meaning.{base}
use Rattle.wide.specs.Planes.{keys_for}
use Rattle.wide.proofs.keys_for.Goals as goal

picked : (n : ℕ) (K : Key) (t : Bool) → ltb n 160 ≡ t → keys_for n K ≡ (if t then replicate 4 (replicate 32 0) else keys_of K)
picked n K t e = ap (λ (u : Bool). if u then replicate 4 (replicate 32 0) else keys_of K) e

pub returns-then-n-lt160 : goal.returns-then-n-lt160
returns-then-n-lt160 c =
    let a = c.args in
    (λ long. absurd (omega arith), sym (picked a.n (base a.k) true (lt-ltb a.n 160 c.if-n-lt160.true)))

pub returns-else-n-lt160 : goal.returns-else-n-lt160
returns-else-n-lt160 c =
    let a = c.args in
    (λ long. c.keys.ensures.0, c.keys.ensures.1 ∙ sym (picked a.n (base a.k) false (le-ltb a.n 160 c.if-n-lt160.false)))
