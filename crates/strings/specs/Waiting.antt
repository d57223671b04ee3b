-- The blocks of a string: those that wait in a group and go through AES4 together, and what each adds to Δ.
use Rattle.std.specs.Prelude.{List, ℕ, ◌-◌}
use Rattle.paper.specs.Strings.{Bytes, ◌⊕◌, pad10*, sum}
use Rattle.paper.specs.Section7.{AES4}
use Rattle.paper.specs.Figure6.{Key, k0, masked, block_at}
use Rattle.columns.specs.Columns.{block_of}
use Rattle.groups.specs.Groups.{entry}

-- AES4 under a list of keys of the first n blocks of g, added up
unfoldable pub added_up : List Bytes → List (List ℕ) → ℕ → Bytes
added_up keys g n = sum n (λ i. AES4 keys (block_of (entry g (i - 1))))

-- lines 408 and 409, with the row's multiple of J, M: block j of a string, and the padded block
abbrev pub full_term : Key → Bytes → Bytes → ℕ → Bytes
full_term K M t j = AES4 (k0 K) (masked K j (block_at t j) ⊕ M)

abbrev pub short_term : Key → Bytes → Bytes → Bytes
short_term K M last = AES4 (k0 K) (pad10* last ⊕ M)
