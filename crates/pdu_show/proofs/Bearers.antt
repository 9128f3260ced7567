-- A bearer's line, as a line of a script and as an entry.
use Rattle.std.proofs.Common.{◌≡◌, ◌≤◌, ℕ, true, false, nat_lt, List, [], ◌∷◌, length, Option, Some}
use Rattle.std.proofs.Common.{Result, Ok, Err, codes, refl, arith}
use Rattle.std.specs.Str.{bytes_eq}
use Rattle.std.proofs.lemmas.Slice.Eq.{bytes_eq-Decides}
use Rattle.air_text.specs.Words.{words_of, ◌>>=◌}
use Rattle.air_text.specs.Reading.{read_of, read_words, bearer_of}
use Rattle.air_record.specs.declared.line.Line.{Line}
use Rattle.air_text.specs.declared.fault.LineRefusal.{LineRefusal}
use Rattle.air_text.specs.declared.fault.LineFault.{LineFault}
use Rattle.pdu_show.specs.declared.entry.Entry.{Entry}
use Rattle.pdu_show.specs.declared.entry.Head.{Head}
use Rattle.pdu_show.specs.Entries.{HasEntry, as_entry, bearer_in, entry_of, entry_words}

as-bearer : (read : Result Line LineRefusal) → as_entry (read >>= λ line. Ok (Some line)) ≡ (read >>= bearer_in)
as-bearer (Ok line) = refl
as-bearer (Err e) = refl

by-words : (words : List (List ℕ)) (first : List ℕ) (fields : List (List ℕ)) → words ≡ first ∷ fields
    → first ≡ codes "bearer"
    → as_entry (read_words words) ≡ entry_words words
unfolding read_words entry_words
by-words words first fields is bearer = rw (is, bearer) (as-bearer (bearer_of fields))

pub bearer_entry : (text first : List ℕ) (fields : List (List ℕ)) → words_of text ≡ first ∷ fields
    → bytes_eq first (codes "bearer") ≡ true → length text ≤ 20000
    → as_entry (read_of text) ≡ entry_of text
unfolding read_of entry_of
bearer_entry text first fields is bearer short =
    let few : nat_lt 20000 (length text) ≡ false = grind (arith, short) in
    rw few (by-words (words_of text) first fields is ((bytes_eq-Decides first (codes "bearer")).0 bearer))

pub for-bearer : (read read' : Result (Option Entry) LineRefusal) (octets : List ℕ)
    (result : Result (Option Head) LineFault)
    → read ≡ read' → octets ≡ [] → HasEntry read [] result → HasEntry read' octets result
for-bearer read read' octets result same none has = rw (none, ← same) has
