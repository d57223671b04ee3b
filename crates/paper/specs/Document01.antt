-- Document 01: the index pairs, headers, the answers in the order in which they are tested, and for each call the number and the length that it returns
-- and every byte of the output buffer. The numbers are 01's answers; where a request overrides or adds, its name is said.
use Rattle.std.specs.Prelude.{◌||◌, ◌&&◌, not, List, [], ◌∷◌, ◌++◌, ℕ, zero, suc, ◌+◌, ◌*◌, eqb, leb, ltb, length, take, drop, replicate, if◌then◌else◌}
use Rattle.std.proofs.Math.Option.{Option, none, some}
use Rattle.paper.specs.Strings.{Bytes, digits}
use Rattle.paper.specs.Figure6.{Row, minus1, row, key_of, E}
use Rattle.paper.specs.Figure5.{encrypt, decrypt}

-- ---- The index pairs

-- what E is called for: for the i-th pair of blocks, for a string of n bytes, for block b of header string s ("Header hash"; 0 for a
-- short last block)
pub data Use : Type 0 where
  a : Use
  aᵢ : ℕ → Use
  aaᵢ : ℕ → Use
  x : Use
  y : Use
  xx : Use
  yy : Use
  u : Use
  v : Use
  uu : Use
  vv : Use
  tiny : ℕ → Use
  tiny_last : Use
  prf : Use
  hash : ℕ → ℕ → Use

-- j and i of E(j, i)
abbrev pub indices : Use → Row × ℕ
indices a = (row 0, 0)
indices (aᵢ i) = (row 1, i)
indices (aaᵢ i) = (row 2, i)
indices x = (row 0, 1)
indices y = (row 0, 2)
indices xx = (minus1, 1)
indices yy = (minus1, 2)
indices u = (row 0, 4)
indices v = (row 0, 5)
indices uu = (minus1, 4)
indices vv = (minus1, 5)
indices (tiny n) = (row 0, (if leb 16 n then 6 else 7))
indices tiny_last = (row 0, 3)
indices prf = (minus1, 3)
indices (hash s b) = (row (s + 2), b)

-- ---- Headers

abbrev pub most_strings : ℕ
most_strings = 16

abbrev pub longest_string : ℕ
longest_string = 1024

-- what reading a header gives: its strings, or the number of the first entry that is bad (request E5): 0 is the count itself, 1 to 16 a
-- string, and 17 what is left over after the last
pub data Read : Type 0 where
  as_strings : List Bytes → Read
  bad_entry : ℕ → Read

-- a string in front of the others, where these read
abbrev pub in_front : Bytes → Read → Read
in_front s (bad_entry k) = bad_entry k
in_front s (as_strings ss) = as_strings (s ∷ ss)

-- n strings, of which the first is the k-th of the header, each after its two-byte length, high byte first, and nothing after the last
unfoldable pub read_strings : ℕ → ℕ → Bytes → Read
read_strings k zero [] = as_strings []
read_strings k zero (b ∷ h) = bad_entry 17
read_strings k (suc n) [] = bad_entry k
read_strings k (suc n) (high ∷ []) = bad_entry k
read_strings k (suc n) (high ∷ low ∷ h) =
    let size = high * 256 + low in
    if leb size longest_string && leb size (length h) then in_front (take size h) (read_strings (suc k) n (drop size h)) else bad_entry k

-- one byte count from 1 to 16, then that many strings
unfoldable pub reading : Bytes → Read
reading [] = bad_entry 0
reading (count ∷ h) = if leb 1 count && leb count most_strings then read_strings 1 count h else bad_entry 0

-- the strings, where there are some: the number of a bad entry is forgotten
abbrev pub strings_of : Read → Option (List Bytes)
strings_of (bad_entry k) = none
strings_of (as_strings ss) = some ss

-- the strings of a header; none where it does not read
unfoldable pub read_header : Bytes → Option (List Bytes)
read_header h = strings_of (reading h)

-- the strings after each other, each after its two-byte length
unfoldable pub write_strings : List Bytes → Bytes
write_strings [] = []
write_strings (s ∷ ss) = digits 256 2 (length s) ++ s ++ write_strings ss

-- the header of some strings
unfoldable pub write_header : List Bytes → Bytes
write_header ss = length ss ∷ write_strings ss

-- the log header's strings: all four items, one without bytes as a string of length 0. Request E2 overrides 01 here, which leaves out a
-- collector and a locale without bytes
unfoldable pub log_items : Bytes → Bytes → Bytes → Bytes → List Bytes
log_items nonce host collector locale = nonce ∷ host ∷ collector ∷ locale ∷ []

unfoldable pub log_header : Bytes → Bytes → Bytes → Bytes → Bytes
log_header nonce host collector locale = write_header (log_items nonce host collector locale)

-- ---- What a call returns, and what it leaves in its output buffer

pub record Outcome : Type 0 where
  pub number : ℕ
  pub size : ℕ
  pub output : Bytes

-- a refusal that leaves the output as it was
abbrev pub refused : ℕ → Bytes → Outcome
refused n out = record { number = n; size = 0; output = out }

-- answer 0: what is written stands first in the output, and all later bytes are as they were
abbrev pub done : ℕ → Bytes → Bytes → Outcome
done n written out = record { number = 0; size = n; output = written ++ drop (length written) out }

-- what sealing and opening return and leave: beside the rest the number of the header's bad entry (request E5)
pub record OutcomeAt : Type 0 where
  pub number : ℕ
  pub place : ℕ
  pub size : ℕ
  pub output : Bytes

abbrev pub beside : ℕ → Outcome → OutcomeAt
beside k o = record { number = o.number; place = k; size = o.size; output = o.output }

abbrev pub longest_sealed : ℕ
longest_sealed = 65536

abbrev pub longest_stretch : ℕ
longest_stretch = 64

-- sealing with what the header reads as: 3, 4, 6, 0
unfoldable pub seal_under : Read → Bytes → ℕ → Bytes → Bytes → OutcomeAt
seal_under (bad_entry k) key stretch text out = beside k (refused 3 out)
seal_under (as_strings strings) key stretch text out =
    let size = length text + stretch in
    if ltb longest_sealed size then beside 0 (refused 4 out)
    else if ltb (length out) size then beside 0 (refused 6 out)
    else beside 0 (done size (encrypt (E (key_of key)) strings stretch text) out)

-- sealing: 1, 2, then the header
unfoldable pub sealing : Bytes → Bytes → ℕ → Bytes → Bytes → OutcomeAt
sealing key header stretch text out =
    if not (eqb (length key) 48) then beside 0 (refused 1 out)
    else if ltb longest_stretch stretch then beside 0 (refused 2 out)
    else seal_under (reading header) key stretch text out

-- after 1 to 6: the check fails, with zeros for the |C| bytes of the sealed string, or the text and as many zeros as the stretch
unfoldable pub opened : Option Bytes → ℕ → ℕ → Bytes → Outcome
opened none stretch size out = record { number = 7; size = 0; output = replicate size 0 ++ drop size out }
opened (some text) stretch size out = done (length text) (text ++ replicate stretch 0) out

-- opening with what the header reads as: 3, 4, 5, 6, then 7 or 0
unfoldable pub open_under : Read → Bytes → ℕ → Bytes → Bytes → OutcomeAt
open_under (bad_entry k) key stretch sealed out = beside k (refused 3 out)
open_under (as_strings strings) key stretch sealed out =
    if ltb longest_sealed (length sealed) then beside 0 (refused 4 out)
    else if ltb (length sealed) stretch then beside 0 (refused 5 out)
    else if ltb (length out) (length sealed) then beside 0 (refused 6 out)
    else beside 0 (opened (decrypt (E (key_of key)) strings stretch sealed) stretch (length sealed) out)

-- opening: 1, 2, then the header
unfoldable pub opening : Bytes → Bytes → ℕ → Bytes → Bytes → OutcomeAt
opening key header stretch sealed out =
    if not (eqb (length key) 48) then beside 0 (refused 1 out)
    else if ltb longest_stretch stretch then beside 0 (refused 2 out)
    else open_under (reading header) key stretch sealed out

-- reading a header by itself (request E5): 3 and the bad entry, or 0 and how many strings there are
pub record OutcomeOfReading : Type 0 where
  pub number : ℕ
  pub strings : ℕ
  pub place : ℕ

abbrev pub told : Read → OutcomeOfReading
told (bad_entry k) = record { number = 3; strings = 0; place = k }
told (as_strings ss) = record { number = 0; strings = length ss; place = 0 }

-- the second form of opening hands back the text's part of the output, which is empty after a refusal
unfoldable pub opened_part : Bytes → Bytes → ℕ → Bytes → Bytes → Bytes
opened_part key header stretch sealed out =
    let o = opening key header stretch sealed out in
    take o.size o.output

-- the log header builder: 8, 6, 0
unfoldable pub building_log_header : Bytes → Bytes → Bytes → Bytes → Bytes → Outcome
building_log_header nonce host collector locale out =
    let header = log_header nonce host collector locale in
    if ltb longest_string (length nonce) || ltb longest_string (length host) || ltb longest_string (length collector) || ltb longest_string (length locale) then refused 8 out
    else if ltb (length out) (length header) then refused 6 out
    else done (length header) header out
