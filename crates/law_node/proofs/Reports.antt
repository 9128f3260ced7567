-- The report of what the bearers have left: its fields, and its room.
use Rattle.std.proofs.Common.{◌≡◌, ◌≤◌, ◌<◌, ℕ, suc, ◌+◌, ◌-◌, nat_lt, nat_le, if◌then◌else◌, Bool, true, false, Option}
use Rattle.std.proofs.Common.{Some, None, unwrap_or, List, [], ◌∷◌, length, replicate, get_or, set, position, min, ◌^◌}
use Rattle.std.proofs.Common.{refl, ◌∙◌, arith}
use Rattle.std.specs.List.{All}
use Rattle.std.proofs.lemmas.Bool.Decides.{nat_tests}
use Rattle.std.proofs.lemmas.List.Elements.{All-nil, All-cons}
use Rattle.std.proofs.lemmas.List.Quantifiers.{position-Some}
use Rattle.std.proofs.Math.ListN.{length-set}
use Rattle.bearer.specs.Bearer.{Of, Life}
use Rattle.l2_types.specs.declared.channel.Channel.{Channel}
use Rattle.l2_types.specs.declared.side.Side.{Side}
use Rattle.l2_types.specs.declared.side.Side.TheVariants.{Nb, Ue}
use Rattle.mac_pdu.specs.declared.item.Bsr.{Bsr}
use Rattle.mac_pdu.specs.Items.{IsReport}
use Rattle.mac_pdu.specs.Writing.{report_size}
use Rattle.prioritise.specs.Levels.{level_of, groups, first_group, report}
use Rattle.l2_node.specs.Writing.{backlog_at, all_waiting, waiting, top_group, reporting, report_of}

-- ---- its fields

place_within : (test : ℕ → Bool) (xs : List ℕ) (other most : ℕ) (o : Option ℕ) → position test xs ≡ o
    → length xs ≤ most → other < most → unwrap_or o other < most
place_within test xs other most None e le lt = lt
place_within test xs other most (Some i) e le lt = let h = position-Some test xs i 0 e in omega (arith, h.0)

edge_below : (test : ℕ → Bool) (edges : List ℕ) → length edges ≡ 63 → unwrap_or (position test edges) 63 < 64
edge_below test edges l = place_within test edges 63 64 (position test edges) refl (omega arith) (omega arith)

level_below : (octets : ℕ) → level_of octets < 64
unfolding level_of
level_below octets = search (edge_below)

all_length : (bs : List (Of Life)) (cs : List Channel) (sums : List ℕ) → length (all_waiting bs cs sums) ≡ length sums
all_length bs [] sums = refl
all_length bs (c ∷ cs) sums =
    let more = min (get_or sums c.group 0 + backlog_at bs c.lcid) (2 ^ 64 - 1) in
    all_length bs cs (set sums c.group more) ∙ length-set sums c.group more

waiting_length : (bs : List (Of Life)) (cs : List Channel) → length (waiting bs cs) ≡ 4
unfolding waiting
waiting_length bs cs = all_length bs cs (replicate 4 0)

top_by : (b : Bool) (group other : ℕ) → group < 4 → other < 4 → (if b then group else other) < 4
top_by true group other g o = g
top_by false group other g o = o

top_below : (bs : List (Of Life)) (cs : List Channel) → All (λ c. c.group < 4) cs → top_group bs cs < 4
top_below bs [] a = omega arith
top_below bs (c ∷ cs) a =
    top_by (nat_lt 0 (backlog_at bs c.lcid)) c.group (top_group bs cs) (a 0 c (omega arith))
    (top_below bs cs (λ k x h. a (suc k) x (omega arith)))

four : (a b c d : ℕ) → All (λ level. level < 64) (level_of a ∷ level_of b ∷ level_of c ∷ level_of d ∷ [])
four a b c d =
    let Is : ℕ → Type 0 = λ level. level < 64 in
    All-cons Is (level_of a) (level_of b ∷ level_of c ∷ level_of d ∷ []) (level_below a)
    (All-cons Is (level_of b) (level_of c ∷ level_of d ∷ []) (level_below b)
    (All-cons Is (level_of c) (level_of d ∷ []) (level_below c)
    (All-cons Is (level_of d) [] (level_below d) (All-nil Is))))

-- what is asked of a report
pub record IsFit (r : Bsr) (padding : ℕ) : Type 0 where
  pub fields : IsReport r
  pub room : 1 + report_size r ≤ padding

abbrev pub FitsIn : Option Bsr → ℕ → Type 0
FitsIn None padding = Unit {0}
FitsIn (Some r) padding = IsFit r padding

report_by : (none all several : Bool) (ws : List ℕ) (top padding : ℕ) → nat_lt padding 2 ≡ none
    → nat_le 4 padding ≡ all → nat_lt 1 (groups ws) ≡ several → length ws ≡ 4 → top < 4
    → FitsIn (report ws top padding) padding
unfolding report
report_by true all several ws top padding e f g l t = rw e tt
report_by false true several ws top padding e f g l t =
    rw (e, f) (record {
      fields = (refl, four (get_or ws 0 0) (get_or ws 1 0) (get_or ws 2 0) (get_or ws 3 0));
      room = grind (arith, nat_tests);
    })
report_by false false true ws top padding e f g l t =
    rw (e, f, g) (record { fields = (t, level_below (get_or ws top 0)); room = grind (arith, nat_tests) })
report_by false false false ws top padding e f g l t =
    let first : first_group ws < 4 =
    place_within (λ octets. nat_lt 0 octets) ws 0 4 (position (λ octets. nat_lt 0 octets) ws) refl (omega arith)
    (omega arith) in
    rw (e, f, g) (record {
      fields = (first, level_below (get_or ws (first_group ws) 0));
      room = grind (arith, nat_tests);
    })

some_fits : (ws : List ℕ) (top padding : ℕ) → length ws ≡ 4 → top < 4 → FitsIn (report ws top padding) padding
some_fits ws top padding l t =
    report_by (nat_lt padding 2) (nat_le 4 padding) (nat_lt 1 (groups ws)) ws top padding refl refl refl l t

if_fits : (b : Bool) (o : Option Bsr) (padding : ℕ) → FitsIn o padding → FitsIn (if b then o else None) padding
if_fits true o padding h = h
if_fits false o padding h = tt

-- none reports downwards
abbrev pub IsUp : Side → Option Bsr → Type 0
IsUp Nb None = Unit {0}
IsUp Nb (Some r) = ⊥
IsUp Ue o = Unit {0}

pub report_fits_in : (side : Side) (reports : Bool) (bs : List (Of Life)) (cs : List Channel) (padding : ℕ)
    → All (λ c. c.group < 4) cs → FitsIn (report_of side reports bs cs padding) padding
report_fits_in side reports bs cs padding a =
    if_fits (reporting side reports) (report (waiting bs cs) (top_group bs cs) padding) padding
    (some_fits (waiting bs cs) (top_group bs cs) padding (waiting_length bs cs) (top_below bs cs a))

pub only_up : (side : Side) (reports : Bool) (bs : List (Of Life)) (cs : List Channel) (padding : ℕ)
    → IsUp side (report_of side reports bs cs padding)
only_up Nb reports bs cs padding = tt
only_up Ue reports bs cs padding = tt
