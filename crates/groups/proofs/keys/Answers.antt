-- `groups::keys`: each key is put into every place.
use Rattle.std.proofs.Common.{◌≡◌, ℕ, ◌<◌, List, [], ◌∷◌, map, replicate, refl, ap, ◌∙◌}
use Rattle.paper.specs.Strings.{Bytes, Block}
use Rattle.columns.specs.Columns.{columns_of, block_of}
use Rattle.columns.proofs.Conversions.{made}
use Rattle.planes.specs.Planes.{plane_block, place_of, up_to, plane_blocks, copied}
use Rattle.tbc.specs.Meaning.{base}
use Rattle.tbc.proofs.Keys.{base_bytes}
use Rattle.groups.specs.Groups.{entry, key_for, keys_of}
use Rattle.groups.proofs.OnPlanes.{at_block}
use Rattle.groups.proofs.keys.Goals as goal

-- a block that was put into every place, at one of them
held : (s q : List ℕ) (X : Bytes) → Block X → s ≡ columns_of X → plane_blocks q ≡ map (λ b. block_of s) (up_to 16) → (i : ℕ) → i < 16 → plane_block q (place_of i) ≡ X
held s q X bytes e h i b = at_block q (λ n. block_of s) h i b ∙ made bytes e

pub returns : goal.returns
unfolding key_for keys_of
returns c =
    let K = base c.args.k in
    let bytes = base_bytes c.args.k in
    let i = c.copies in
    let j = c.copies-2 in
    let l = c.copies-3 in
    let is-i = ap (λ (b : List (List ℕ)). entry b 0) c.blocks-2.ensures in
    let is-j = ap (λ (b : List (List ℕ)). entry b 1) c.blocks-2.ensures in
    let is-l = ap (λ (b : List (List ℕ)). entry b 2) c.blocks-2.ensures in (
      (
        λ n b t. record {
          I = held _ i.result K.I bytes.I is-i i.ensures.0 n b t;
          J = held _ j.result K.J bytes.J is-j j.ensures.0 n b t;
          L = held _ l.result K.L bytes.L is-l l.ensures.0 n b t;
        },
        refl,
      ),
      λ t. (i.ensures.1 ∙ ap copied is-i) t ∷ (j.ensures.1 ∙ ap copied is-j) t ∷ (l.ensures.1 ∙ ap copied is-l) t ∷ replicate 32 0 ∷ [],
    )
