-- One step of what goes over what is to be given again.
use Rattle.std.proofs.Common.{◌≡◌, ◌≤◌, ℕ, ◌+◌, ◌-◌, Bool, true, false, List, [], ◌∷◌, ◌++◌, length, map, Some}
use Rattle.std.proofs.Common.{slice_get, refl, ap, arith}
use Rattle.pdcp_tx_store.specs.declared.given.Sent.{Sent}
use Rattle.pdcp_tx_store.specs.declared.given.Entry.{Entry}
use Rattle.pdcp_tx_store.specs.declared.given.Entry.TheVariants.{Data, Own, Gone}
use Rattle.pdcp_tx_store.specs.Given.{heard, tells, untold, data_of, is_unacked, from_unacked, sent_octets}

-- what was given, then what is to be given again

pub data_join : (es fs : List Entry) → data_of (es ++ fs) ≡ data_of es ++ data_of fs
data_join [] fs = refl
data_join (Data x ∷ xs) fs = ap (λ l. x ∷ l) (data_join xs fs)
data_join (Own ∷ xs) fs = data_join xs fs
data_join (Gone ∷ xs) fs = data_join xs fs

pub octets_join : (es fs : List Entry) → sent_octets (data_of (es ++ fs))
    ≡ sent_octets (data_of es) + sent_octets (data_of fs)
octets_join [] fs = omega arith
octets_join (Data x ∷ xs) fs = let ih = octets_join xs fs in omega arith
octets_join (Own ∷ xs) fs = octets_join xs fs
octets_join (Gone ∷ xs) fs = octets_join xs fs

pub length_join : (es fs : List Entry) → length (data_of (es ++ fs)) ≡ length (data_of es) + length (data_of fs)
length_join [] fs = omega arith
length_join (Data x ∷ xs) fs = let ih = length_join xs fs in omega arith
length_join (Own ∷ xs) fs = length_join xs fs
length_join (Gone ∷ xs) fs = length_join xs fs

pub ruleset joins = (data_join, octets_join, length_join)

-- what RLC has acknowledged leaves the front

pub unacked_stop : (es : List Entry) (e : Entry) → slice_get es 0 ≡ Some e → is_unacked e ≡ true
    → from_unacked (data_of es) ≡ data_of es
unacked_stop [] e g h = cc
unacked_stop (x ∷ xs) e g h = grind arith

pub unacked_more : (es rest : List Entry) (e : Entry) → es ≡ e ∷ rest → is_unacked e ≡ false
    → from_unacked (data_of rest) ≡ from_unacked (data_of es)
unacked_more es rest (Data s) q h = rw q (grind arith)
unacked_more es rest Own q h = rw q refl
unacked_more es rest Gone q h = rw q refl

pub octets_rest : (e : Entry) (es : List Entry) → sent_octets (data_of es) ≤ sent_octets (data_of (e ∷ es))
octets_rest (Data s) es = omega arith
octets_rest Own es = omega arith
octets_rest Gone es = omega arith

pub length_rest : (e : Entry) (es : List Entry) → length (data_of es) ≤ length (data_of (e ∷ es))
length_rest (Data s) es = omega arith
length_rest Own es = omega arith
length_rest Gone es = omega arith

pub ruleset trims = (unacked_stop, unacked_more, octets_rest, length_rest)

pub octets_first : (old new : List Sent) (s : Sent) → old ≡ s ∷ new
    → sent_octets new ≡ sent_octets old - length s.octets
octets_first old new s e = rw e (omega arith)

pub length_first : (old new : List Sent) (s : Sent) → old ≡ s ∷ new → length new ≡ length old - 1
length_first old new s e = rw e (omega arith)

pub ruleset pops = (octets_first, length_first)

heard_step : (from : ℕ) (bitmap : List ℕ) (s : Sent) (es : List Entry) (b : Bool) → tells from bitmap s.count ≡ b
    → data_of (map (heard from bitmap) es) ≡ untold from bitmap (data_of es)
    → data_of (map (heard from bitmap) (Data s ∷ es)) ≡ untold from bitmap (s ∷ data_of es)
heard_step from bitmap s es true e h = rw e h
heard_step from bitmap s es false e h = rw e (ap (λ l. s ∷ l) h)

pub data_heard : (from : ℕ) (bitmap : List ℕ) (es : List Entry)
    → data_of (map (heard from bitmap) es) ≡ untold from bitmap (data_of es)
data_heard from bitmap [] = refl
data_heard from bitmap (Data s ∷ es) =
    heard_step from bitmap s es (tells from bitmap s.count) refl (data_heard from bitmap es)
data_heard from bitmap (Own ∷ es) = data_heard from bitmap es
data_heard from bitmap (Gone ∷ es) = data_heard from bitmap es

octets_step : (from : ℕ) (bitmap : List ℕ) (s : Sent) (ss : List Sent) (b : Bool) → tells from bitmap s.count ≡ b
    → sent_octets (untold from bitmap ss) ≤ sent_octets ss
    → sent_octets (untold from bitmap (s ∷ ss)) ≤ sent_octets (s ∷ ss)
octets_step from bitmap s ss true e h = rw e (omega arith)
octets_step from bitmap s ss false e h = rw e (omega arith)

pub octets_less : (from : ℕ) (bitmap : List ℕ) (ss : List Sent) → sent_octets (untold from bitmap ss) ≤ sent_octets ss
octets_less from bitmap [] = omega arith
octets_less from bitmap (s ∷ ss) =
    octets_step from bitmap s ss (tells from bitmap s.count) refl (octets_less from bitmap ss)

length_step : (from : ℕ) (bitmap : List ℕ) (s : Sent) (ss : List Sent) (b : Bool) → tells from bitmap s.count ≡ b
    → length (untold from bitmap ss) ≤ length ss → length (untold from bitmap (s ∷ ss)) ≤ length (s ∷ ss)
length_step from bitmap s ss true e h = rw e (omega arith)
length_step from bitmap s ss false e h = rw e (omega arith)

pub length_less : (from : ℕ) (bitmap : List ℕ) (ss : List Sent) → length (untold from bitmap ss) ≤ length ss
length_less from bitmap [] = omega arith
length_less from bitmap (s ∷ ss) =
    length_step from bitmap s ss (tells from bitmap s.count) refl (length_less from bitmap ss)

pub ruleset hears = (data_heard, octets_less, length_less)

-- the sums of a first entry and of the others
pub octets_split : (e : Entry) (es : List Entry)
    → sent_octets (data_of (e ∷ es)) ≡ sent_octets (data_of (e ∷ [])) + sent_octets (data_of es)
octets_split (Data s) es = omega arith
octets_split Own es = omega arith
octets_split Gone es = omega arith

pub length_split : (e : Entry) (es : List Entry)
    → length (data_of (e ∷ es)) ≡ length (data_of (e ∷ [])) + length (data_of es)
length_split (Data s) es = omega arith
length_split Own es = omega arith
length_split Gone es = omega arith

pub ruleset sums = (octets_split, length_split)
