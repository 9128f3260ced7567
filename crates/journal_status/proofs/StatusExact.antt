-- Group by group, the verdict is exact.
use Rattle.std.proofs.Common.{◌≡◌, ℕ, ◌+◌, ◌<◌, ◌≤◌, Bool, true, false, List, [], ◌∷◌, ◌++◌, ◌↔◌}
use Rattle.std.proofs.Common.{inl, inr, refl, ap, sym, ◌∙◌, arith, subst, append-nil, append_assoc}
use Rattle.std.specs.Prelude.{IsTrue, ◌&&◌}
use Rattle.std.proofs.lemmas.Bool.{and_parts, and_from, cases_lt}
use Rattle.l2_types.specs.declared.side.Side.{Side}
use Rattle.l2_types.specs.declared.side.Side.TheVariants.{Nb, Ue}
use Rattle.air_record.specs.declared.record.Record.{Record}
use Rattle.air_text.specs.Groups.{Group}
use Rattle.journal_flows.specs.Gathering.{MayTake, is_handover}
use Rattle.journal_flows.specs.Accounts.{Keeping, all_kept}
use Rattle.journal_flows.specs.Accounts.{after_line as kept_at, after_record as kept_behind}
use Rattle.journal_flows.specs.Laws.{bearer_on}
use Rattle.journal_status.specs.RightStatus.{up_to, told_within, AreTrueReports, tells_ignored}
use Rattle.journal_status.specs.RightStatus.{ignored_told, ignored_within, GroupStatusRight, StatusIsRight}
use Rattle.journal_status.specs.StatusChecking.{Checking, tolds_of, ignored_at, all_told, after_record, after_line}
use Rattle.journal_status.specs.StatusChecking.{after_group, checked, all_checked}
use Rattle.journal_status.proofs.StatusChannels.{all_sound, all_complete}
use Rattle.journal_status.proofs.StatusReports.{IsKept, block_judged}
use Rattle.journal_status.proofs.StatusRecords.{told_at, Sizes, one_more, IsRecordRight, record_sizes, record_sound}
use Rattle.journal_status.proofs.StatusRecords.{record_complete, record_told, record_hands, told_by_one, some_told}
use Rattle.journal_status.proofs.StatusRecords.{none_told}
use Rattle.journal_status.proofs.StatusGroups.{kept_now, is_kept, ignored_now, Follows, follows_one, followed}
use Rattle.journal_status.proofs.StatusGroups.{line_sizes, line_right, Stands, line_stands, first_stands, group_stands}

-- ---- a record, by the histories

record IsRecordOk (may_take : MayTake) (now : Group) (past : List Group) (told : List Record) (one : Record)
    : Type 0 where
  truly : AreTrueReports (told_within may_take (up_to (told ++ one ∷ []) now) past) one
  low : (s : Side) (l : ℕ) → tells_ignored s l one ≡ true → l ≤ 10
  within : (s : Side) (l : ℕ) → tells_ignored s l one ≡ true
      → ignored_within may_take (up_to [] now) past s l + ignored_told s l (told ++ one ∷ [])
      ≤ ignored_within may_take (up_to (told ++ one ∷ []) now) past s l

-- of each channel those are told of that were ignored before the group, and as many as records tell
abbrev Counts : MayTake → Group → List Group → List Record → Checking → Type 0
Counts may_take now past told c =
    (s : Side) (l : ℕ) → l ≤ 10
    → told_at s l c ≡ ignored_within may_take (up_to [] now) past s l + ignored_told s l told

-- behind some records, what is kept behind one more
record IsBehind (may_take : MayTake) (now : Group) (past : List Group) (told : List Record) (one : Record)
    (more : Bool) (k : Keeping) : Type 0 where
  kept : IsKept (λ lcid. bearer_on lcid (now ∷ past)) (kept_behind more one k)
      (told_within may_take (up_to (told ++ one ∷ []) now) past)
  ignored : (s : Side) (l : ℕ) → l ≤ 10
      → ignored_at s (kept_behind more one k) l ≡ ignored_within may_take (up_to (told ++ one ∷ []) now) past s l

behind_one : (may_take : MayTake) (now : Group) (past : List Group) (told before : List Record) (k : Keeping)
    (one : Record) → Follows may_take now past told before k
    → IsBehind may_take now past told one (may_take past before one) k
behind_one may_take now past told before k one f =
    let upto : Group = up_to (told ++ one ∷ []) now in
    let after = kept_behind (may_take past before one) one k in
    let is : after ≡ kept_now may_take upto past =
    followed may_take now past (told ++ one ∷ []) (one ∷ before) after
    (follows_one may_take now past told before k one f) in
    record {
      kept = subst (λ (x : Keeping). IsKept (λ lcid. bearer_on lcid (now ∷ past)) x (told_within may_take upto past))
          (sym is) (is_kept may_take upto past);
      ignored = λ s l low. ap (λ (x : Keeping). ignored_at s x l) is ∙ ignored_now may_take upto past s l low;
    }

one_sound : (may_take : MayTake) (now : Group) (past : List Group) (told : List Record) (one : Record) (more : Bool)
    (k : Keeping) (c : Checking) → IsBehind may_take now past told one more k → Counts may_take now past told c
    → IsRecordRight (kept_behind more one k) one c → IsRecordOk may_take now past told one
one_sound may_take now past told one more k c b counts h = record {
  truly = (block_judged (λ lcid. bearer_on lcid (now ∷ past)) more one k
      (told_within may_take (up_to (told ++ one ∷ []) now) past) b.kept).0 h.truly;
  low = h.low;
  within = λ s l is.
      let low = h.low s l is in
      omega (arith, h.fewer s l is, counts s l low, b.ignored s l low, told_by_one s l told one, ap one_more is);
}

one_complete : (may_take : MayTake) (now : Group) (past : List Group) (told : List Record) (one : Record) (more : Bool)
    (k : Keeping) (c : Checking) → IsBehind may_take now past told one more k → Counts may_take now past told c
    → c.right ≡ true → IsRecordOk may_take now past told one → IsRecordRight (kept_behind more one k) one c
one_complete may_take now past told one more k c b counts was h = record {
  was = was;
  low = h.low;
  fewer = λ s l is.
      let low = h.low s l is in
      omega (arith, h.within s l is, counts s l low, b.ignored s l low, told_by_one s l told one, ap one_more is);
  truly = (block_judged (λ lcid. bearer_on lcid (now ∷ past)) more one k
      (told_within may_take (up_to (told ++ one ∷ []) now) past) b.kept).1 h.truly;
}

one_counts : (may_take : MayTake) (now : Group) (past : List Group) (told : List Record) (one : Record) (k : Keeping)
    (c : Checking) → Sizes c → Counts may_take now past told c → IsRecordRight k one c
    → Counts may_take now past (told ++ one ∷ []) (after_record k one c)
one_counts may_take now past told one k c size counts h s l low =
    omega (arith, record_told k one c h size s l low, counts s l low, told_by_one s l told one)

-- ---- records

abbrev EachOk : MayTake → Group → List Group → List Record → List Record → Type 0
EachOk may_take now past told [] = Unit {0}
EachOk may_take now past told (one ∷ rest) =
    IsRecordOk may_take now past told one × EachOk may_take now past (told ++ one ∷ []) rest

checked_was : (may_take : MayTake) (past : List Group) (rest before : List Record) (k : Keeping) (c : Checking)
    → (checked may_take past before rest k c).right ≡ true → c.right ≡ true
checked_was may_take past [] before k c h = h
checked_was may_take past (one ∷ rest) before k c h =
    let after = kept_behind (may_take past before one) one k in
    (record_sound after one c
    (checked_was may_take past rest (one ∷ before) after (after_record after one c) h)).was

checked_sizes : (may_take : MayTake) (past : List Group) (rest before : List Record) (k : Keeping) (c : Checking)
    → Sizes c → Sizes (checked may_take past before rest k c)
checked_sizes may_take past [] before k c size = size
checked_sizes may_take past (one ∷ rest) before k c size =
    let after = kept_behind (may_take past before one) one k in
    checked_sizes may_take past rest (one ∷ before) after (after_record after one c) (record_sizes after one c size)

checked_hands : (may_take : MayTake) (past : List Group) (rest before : List Record) (k : Keeping) (c : Checking)
    → (checked may_take past before rest k c).hands_over ≡ c.hands_over
checked_hands may_take past [] before k c = refl
checked_hands may_take past (one ∷ rest) before k c =
    let after = kept_behind (may_take past before one) one k in
    checked_hands may_take past rest (one ∷ before) after (after_record after one c) ∙ record_hands after one c

each_sound : (may_take : MayTake) (now : Group) (past : List Group) (rest told before : List Record) (k : Keeping)
    (c : Checking) → Follows may_take now past told before k → Sizes c → Counts may_take now past told c
    → (checked may_take past before rest k c).right ≡ true
    → EachOk may_take now past told rest
    × Counts may_take now past (told ++ rest) (checked may_take past before rest k c)
each_sound may_take now past [] told before k c f size counts h =
    (tt, subst (λ (xs : List Record). Counts may_take now past xs c) (sym (append-nil told)) counts)
each_sound may_take now past (one ∷ rest) told before k c f size counts h =
    let more = may_take past before one in
    let after = kept_behind more one k in
    let right = record_sound after one c
    (checked_was may_take past rest (one ∷ before) after (after_record after one c) h) in
    let next = each_sound may_take now past rest (told ++ one ∷ []) (one ∷ before) after (after_record after one c)
    (follows_one may_take now past told before k one f) (record_sizes after one c size)
    (one_counts may_take now past told one after c size counts right) h in (
      (
        one_sound may_take now past told one more k c (behind_one may_take now past told before k one f) counts right,
        next.0,
      ),
      subst (λ (xs : List Record). Counts may_take now past xs (checked may_take past before (one ∷ rest) k c))
          (append_assoc told (one ∷ []) rest) next.1,
    )

each_complete : (may_take : MayTake) (now : Group) (past : List Group) (rest told before : List Record) (k : Keeping)
    (c : Checking) → Follows may_take now past told before k → Sizes c → Counts may_take now past told c
    → c.right ≡ true → EachOk may_take now past told rest → (checked may_take past before rest k c).right ≡ true
each_complete may_take now past [] told before k c f size counts was each = was
each_complete may_take now past (one ∷ rest) told before k c f size counts was each =
    let more = may_take past before one in
    let after = kept_behind more one k in
    let right = one_complete may_take now past told one more k c (behind_one may_take now past told before k one f)
    counts was each.0 in
    each_complete may_take now past rest (told ++ one ∷ []) (one ∷ before) after (after_record after one c)
    (follows_one may_take now past told before k one f) (record_sizes after one c size)
    (one_counts may_take now past told one after c size counts right) (record_complete after one c right) each.1

-- ---- each record, by what stands before it

each_at : (may_take : MayTake) (now : Group) (past : List Group) (rest told : List Record)
    → EachOk may_take now past told rest → (mid : List Record) (one : Record) (end : List Record)
    → rest ≡ mid ++ one ∷ end → IsRecordOk may_take now past (told ++ mid) one
each_at may_take now past [] told each [] one end e = absurd cc
each_at may_take now past [] told each (m ∷ mid) one end e = absurd cc
each_at may_take now past (x ∷ rest) told each [] one end e =
    let same : x ≡ one = cc in
    subst (λ (xs : List Record). IsRecordOk may_take now past xs one) (sym (append-nil told))
    (subst (λ (y : Record). IsRecordOk may_take now past told y) same each.0)
each_at may_take now past (x ∷ rest) told each (m ∷ mid) one end e =
    let same : x ≡ m = cc in
    let more : rest ≡ mid ++ one ∷ end = cc in
    subst (λ (xs : List Record). IsRecordOk may_take now past xs one)
    (append_assoc told (x ∷ []) mid ∙ ap (λ (y : Record). told ++ y ∷ mid) same)
    (each_at may_take now past rest (told ++ x ∷ []) each.1 mid one end more)

at_each : (may_take : MayTake) (now : Group) (past : List Group) (rest told : List Record)
    → ((mid : List Record) (one : Record) (end : List Record) → rest ≡ mid ++ one ∷ end
    → IsRecordOk may_take now past (told ++ mid) one)
    → EachOk may_take now past told rest
at_each may_take now past [] told h = tt
at_each may_take now past (x ∷ rest) told h = (
  subst (λ (xs : List Record). IsRecordOk may_take now past xs x) (append-nil told) (h [] x rest refl),
  at_each may_take now past rest (told ++ x ∷ []) (λ mid one end e.
      subst (λ (xs : List Record). IsRecordOk may_take now past xs one) (sym (append_assoc told (x ∷ []) mid))
      (h (x ∷ mid) one end (ap (λ (xs : List Record). x ∷ xs) e))),
)

-- ---- channels that there aren't

far_told : (may_take : MayTake) (now : Group) (past : List Group) (rest told : List Record)
    → EachOk may_take now past told rest → (s : Side) (l : ℕ) → 10 < l → ignored_told s l rest ≡ 0
far_told may_take now past [] told each s l far = refl
far_told may_take now past (one ∷ rest) told each s l far =
    none_told s l one rest (by (tells_ignored s l one) refl)
    (far_told may_take now past rest (told ++ one ∷ []) each.1 s l far)
  where
    by : (b : Bool) → tells_ignored s l one ≡ b → b ≡ false
    by true is = absurd (omega (arith, each.0.low s l is, far))
    by false is = refl

-- ---- a group

abbrev records_checked : MayTake → Group → List Group → Checking → Checking
records_checked may_take now past c =
    checked may_take past [] now.events (kept_at now.line (all_kept may_take past)) (after_line now.line c)

first_counts : (may_take : MayTake) (now : Group) (past : List Group) (c : Checking) → Stands may_take past c
    → Counts may_take now past [] (after_line now.line c)
first_counts may_take now past c s side l low =
    omega (arith, line_stands may_take now past c s side l low)

from_zero : (l : ℕ) → 0 + l ≡ l
from_zero l = omega arith

abbrev AllTold : Keeping → Checking → Type 0
AllTold k d = (side : Side) (l : ℕ) → l ≤ 10 → told_at side l d ≡ ignored_at side k l

told_on : (side : Side) (k : Keeping) (d : Checking) → Sizes d → all_told (ignored_at side k) 0 (tolds_of side d) ≡ true
    → (l : ℕ) → l ≤ 10 → told_at side l d ≡ ignored_at side k l
told_on side k d size h l low =
    all_sound (ignored_at side k) 0 (tolds_of side d) h l (omega (arith, size side, low))
    ∙ ap (ignored_at side k) (from_zero l)

all_on : (side : Side) (k : Keeping) (d : Checking) → Sizes d → AllTold k d
    → all_told (ignored_at side k) 0 (tolds_of side d) ≡ true
all_on side k d size h =
    all_complete (ignored_at side k) 0 (tolds_of side d)
    (λ i lt. h side i (omega (arith, size side, lt)) ∙ ap (ignored_at side k) (sym (from_zero i)))

record Parts (k : Keeping) (d : Checking) : Type 0 where
  was : d.right ≡ true
  told : AllTold k d

parts : (k : Keeping) (d : Checking) → Sizes d → (after_group k d).right ≡ true → Parts k d
parts k d size h =
    let a = and_parts (d.right && all_told (ignored_at Nb k) 0 d.nb) (all_told (ignored_at Ue k) 0 d.ue) h in
    let b = and_parts d.right (all_told (ignored_at Nb k) 0 d.nb) a.0 in
    record {
      was = b.0;
      told = λ side. by (told_on Nb k d size b.1) (told_on Ue k d size a.1) side;
    }
  where
    by : ((l : ℕ) → l ≤ 10 → told_at Nb l d ≡ ignored_at Nb k l)
        → ((l : ℕ) → l ≤ 10 → told_at Ue l d ≡ ignored_at Ue k l)
        → (side : Side) (l : ℕ) → l ≤ 10 → told_at side l d ≡ ignored_at side k l
    by nb ue Nb = nb
    by nb ue Ue = ue

whole : (k : Keeping) (d : Checking) → Sizes d → Parts k d → (after_group k d).right ≡ true
whole k d size p =
    and_from (d.right && all_told (ignored_at Nb k) 0 d.nb) (all_told (ignored_at Ue k) 0 d.ue)
    (and_from d.right (all_told (ignored_at Nb k) 0 d.nb) p.was (all_on Nb k d size p.told))
    (all_on Ue k d size p.told)

end_was : (k : Keeping) (d : Checking) → (after_group k d).right ≡ true → d.right ≡ true
end_was k d h =
    let a = and_parts (d.right && all_told (ignored_at Nb k) 0 d.nb) (all_told (ignored_at Ue k) 0 d.ue) h in
    (and_parts d.right (all_told (ignored_at Nb k) 0 d.nb) a.0).0

was_right : (may_take : MayTake) (now : Group) (past : List Group) (c : Checking)
    → (after_group (kept_now may_take now past) (records_checked may_take now past c)).right ≡ true → c.right ≡ true
was_right may_take now past c h =
    sym (line_right now.line c)
    ∙ checked_was may_take past now.events [] (kept_at now.line (all_kept may_take past)) (after_line now.line c)
    (end_was (kept_now may_take now past) (records_checked may_take now past c) h)

records_sizes : (may_take : MayTake) (now : Group) (past : List Group) (c : Checking) → Sizes c
    → Sizes (records_checked may_take now past c)
records_sizes may_take now past c size =
    checked_sizes may_take past now.events [] (kept_at now.line (all_kept may_take past)) (after_line now.line c)
    (line_sizes now.line c size)

-- ---- the verdict

group_sound : (may_take : MayTake) (now : Group) (past : List Group) (c : Checking) → Stands may_take past c
    → (after_group (kept_now may_take now past) (records_checked may_take now past c)).right ≡ true
    → GroupStatusRight may_take now past
    × Stands may_take (now ∷ past) (after_group (kept_now may_take now past) (records_checked may_take now past c))
group_sound may_take now past c s h =
    let k = kept_now may_take now past in
    let d = records_checked may_take now past c in
    let size = records_sizes may_take now past c s.sizes in
    let p = parts k d size h in
    let r = each_sound may_take now past now.events [] [] (kept_at now.line (all_kept may_take past))
    (after_line now.line c) (λ rest. refl) (line_sizes now.line c s.sizes) (first_counts may_take now past c s) p.was in
    let at : (side : Side) (l : ℕ) → l ≤ 10 → told_at side l d ≡ ignored_within may_take now past side l =
    λ side l low. p.told side l low ∙ ignored_now may_take now past side l low in
    let hands : d.hands_over ≡ is_handover now.line =
    checked_hands may_take past now.events [] (kept_at now.line (all_kept may_take past)) (after_line now.line c) in (
      record {
        are_true = λ told one rest e. (each_at may_take now past now.events [] r.0 told one rest e).truly;
        on_channels = λ side l low. record {
          behind_each = λ told one rest e is.
              (each_at may_take now past now.events [] r.0 told one rest e).within side l is;
          behind_all = sym (r.1 side l low) ∙ at side l low;
        };
        elsewhere = λ side l far. far_told may_take now past now.events [] r.0 side l far;
      },
      group_stands may_take now past d size hands at,
    )

low_of : (now : Group) (told : List Record) (one : Record) (rest : List Record) → now.events ≡ told ++ one ∷ rest
    → ((side : Side) (l : ℕ) → 10 < l → ignored_told side l now.events ≡ 0) → (side : Side) (l : ℕ)
    → tells_ignored side l one ≡ true → l ≤ 10
low_of now told one rest e none side l is = elim (cases_lt 10 l) [
  | inl far ↦ absurd (some_told side l told one rest is
      (sym (ap (λ (xs : List Record). ignored_told side l xs) e) ∙ none side l far))
  | inr low ↦ low
]

group_complete : (may_take : MayTake) (now : Group) (past : List Group) (c : Checking) → Stands may_take past c
    → c.right ≡ true → GroupStatusRight may_take now past
    → (after_group (kept_now may_take now past) (records_checked may_take now past c)).right ≡ true
group_complete may_take now past c s was g =
    let k = kept_now may_take now past in
    let d = records_checked may_take now past c in
    let size = records_sizes may_take now past c s.sizes in
    let each : EachOk may_take now past [] now.events = at_each may_take now past now.events []
    (λ told one rest e.
    let low = low_of now told one rest e g.elsewhere in
    record {
      truly = g.are_true told one rest e;
      low = low;
      within = λ side l is. (g.on_channels side l (low side l is)).behind_each told one rest e is;
    }) in
    let counts = first_counts may_take now past c s in
    let right : d.right ≡ true = each_complete may_take now past now.events [] []
    (kept_at now.line (all_kept may_take past)) (after_line now.line c) (λ rest. refl) (line_sizes now.line c s.sizes)
    counts (line_right now.line c ∙ was) each in
    let r = each_sound may_take now past now.events [] [] (kept_at now.line (all_kept may_take past))
    (after_line now.line c) (λ rest. refl) (line_sizes now.line c s.sizes) counts right in
    whole k d size (record {
      was = right;
      told = λ side l low. r.1 side l low ∙ (g.on_channels side l low).behind_all
          ∙ sym (ignored_now may_take now past side l low);
    })

sound : (may_take : MayTake) (past : List Group) → (all_checked may_take past).right ≡ true
    → StatusIsRight may_take past × Stands may_take past (all_checked may_take past)
sound may_take [] h = (tt, first_stands may_take (all_checked may_take []) refl refl)
sound may_take (now ∷ past) h =
    let c = all_checked may_take past in
    let before = sound may_take past (was_right may_take now past c h) in
    let g = group_sound may_take now past c before.1 h in
    ((g.0, before.0), g.1)

complete : (may_take : MayTake) (past : List Group) → StatusIsRight may_take past
    → (all_checked may_take past).right ≡ true
complete may_take [] h = refl
complete may_take (now ∷ past) h =
    let was = complete may_take past h.1 in
    group_complete may_take now past (all_checked may_take past) (sound may_take past was).1 was h.0

pub exact : (may_take : MayTake) (past : List Group)
    → IsTrue (all_checked may_take past).right ↔ StatusIsRight may_take past
exact may_take past = (λ h. (sound may_take past h).0, complete may_take past)
