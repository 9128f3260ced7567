-- SDUs that wait on a channel, and whether something may be taken, record by record.
use Rattle.std.proofs.Common.{◌≡◌, ℕ, ◌≤◌, Bool, true, false, List, [], ◌∷◌, ◌++◌, Option, refl, ap, sym}
use Rattle.std.proofs.Common.{◌∙◌, reverse, if◌then◌else◌}
use Rattle.std.specs.Prelude.{nat_lt}
use Rattle.std.proofs.lemmas.List.{reverse-append}
use Rattle.l2_types.specs.declared.side.Side.{Side}
use Rattle.l2_types.specs.declared.side.Side.TheVariants.{Nb, Ue}
use Rattle.air_record.specs.declared.record.Record.{Record}
use Rattle.air_record.specs.declared.submission.Submission.{Submission}
use Rattle.air_record.specs.Submissions.{unrefused}
use Rattle.air_text.specs.Groups.{Group}
use Rattle.journal_flows.specs.Gathering.{is_handover}
use Rattle.journal_given.specs.Supplies.{Keeper, Bearer, History, histories}
use Rattle.journal_given.specs.Giving.{Giving, waits_at, offers, may_take, settled, after_line}
use Rattle.journal_given.specs.Giving.{after_record, after_records, given_within, all_given, behind_records}
use Rattle.law_given.specs.OneBearer.{waits_submits, waits_told, waits_by_line, OneChannel, channel_in, waits_on}
use Rattle.law_given.specs.OneBearer.{one_settled, one_record, one_line, one_group, first_of, HasChannels}
use Rattle.law_given.specs.BearerRecords.{expires, left_by, waits_first, waits_before, WaitsByRecords}
use Rattle.law_given.specs.BearerRecords.{MayTakeByRecords}
use Rattle.law_given.proofs.OneBearer.{one_channel_by_steps}
use Rattle.law_given.proofs.OneBearerGroups.{may_there, given_has, within_has, within_hand}
use Rattle.law_given.proofs.BearerRecordsHistories.{one_more, left_is, settled_so}

-- ---- SDUs that wait

waits_same : (side : Side) (l : ℕ) (g : Giving History) (c : OneChannel History) → channel_in l g ≡ c
    → waits_at side l g.waits ≡ waits_on side c
waits_same Nb l g c is = ap (λ (x : OneChannel History). x.nb_waits) is
waits_same Ue l g c is = ap (λ (x : OneChannel History). x.ue_waits) is

settled_waits : (side : Side) (l : ℕ) (one : Record) (g : Giving History)
    → waits_on side (one_settled histories l one (channel_in l g))
    ≡ waits_submits side l (unrefused one g.submitted) (waits_at side l g.waits)
settled_waits Nb l one g = refl
settled_waits Ue l one g = refl

record_waits : (side : Side) (l : ℕ) (more : Bool) (one : Record) (g : Giving History)
    → waits_on side (one_record histories l more one (channel_in l g))
    ≡ waits_told side l one (waits_submits side l (unrefused one g.submitted) (waits_at side l g.waits))
record_waits Nb l more one g = refl
record_waits Ue l more one g = refl

line_waits : (side : Side) (l : ℕ) (now : Group) (g : Giving History)
    → waits_on side (one_line histories l now.line (channel_in l g))
    ≡ waits_by_line l now.line (waits_at side l g.waits)
line_waits Nb l now g = refl
line_waits Ue l now g = refl

group_waits : (side : Side) (l : ℕ) (b : Bool) (g : Giving History)
    → waits_on side (one_group histories l b (channel_in l g))
    ≡ (if b then 0 else waits_submits side l g.submitted (waits_at side l g.waits))
group_waits Nb l true g = refl
group_waits Nb l false g = refl
group_waits Ue l true g = refl
group_waits Ue l false g = refl

first_has : (now : Group) (past : List Group) (told : List Record)
    → HasChannels History (given_within histories (first_of now told) (all_given histories past))
first_has now past told =
    within_has histories (first_of now told) (all_given histories past) (given_has histories past)

waits_so : (side : Side) (l : ℕ) → l ≤ 10 → (now : Group) (past : List Group) (told : List Record) (one : Record)
    → waits_at side l
    (settled histories one (given_within histories (first_of now told) (all_given histories past))).waits
    ≡ waits_before side l now past told one
waits_so side l low now past told one =
    let g = given_within histories (first_of now told) (all_given histories past) in
    waits_same side l (settled histories one g) (one_settled histories l one (channel_in l g))
    (((one_channel_by_steps History histories).alone l g low (first_has now past told)).settles one)
    ∙ settled_waits side l one g
    ∙ ap (λ (sdu : Option Submission). waits_submits side l (unrefused one sdu) (waits_at side l g.waits))
    (left_is histories now.line told (all_given histories past))

waits_go : (side : Side) (l : ℕ) → l ≤ 10 → (now : Group) (past : List Group) (told : List Record) (one : Record)
    → waits_first side l now past (told ++ one ∷ [])
    ≡ waits_told side l one (waits_before side l now past told one)
waits_go side l low now past told one =
    let g = given_within histories (first_of now told) (all_given histories past) in
    let more = may_take histories one (settled histories one g) in
    ap (λ (x : Giving History). waits_at side l x.waits)
    (one_more histories told one (after_line histories now.line (all_given histories past)))
    ∙ waits_same side l (after_record histories one g) (one_record histories l more one (channel_in l g))
    (((one_channel_by_steps History histories).alone l g low (first_has now past told)).behind one)
    ∙ record_waits side l more one g
    ∙ ap (λ (sdu : Option Submission). waits_told side l one
    (waits_submits side l (unrefused one sdu) (waits_at side l g.waits)))
    (left_is histories now.line told (all_given histories past))

waits_end : (side : Side) (l : ℕ) → l ≤ 10 → (now : Group) (past : List Group)
    → waits_at side l (all_given histories (now ∷ past)).waits
    ≡ (if is_handover now.line then 0
    else waits_submits side l (left_by now.line now.events) (waits_first side l now past now.events))
waits_end side l low now past =
    let g = given_within histories now (all_given histories past) in
    waits_same side l (all_given histories (now ∷ past)) (one_group histories l g.hands_over (channel_in l g))
    (((one_channel_by_steps History histories).alone l g low (first_has now past now.events)).group)
    ∙ group_waits side l g.hands_over g
    ∙ ap (λ (b : Bool). if b then 0 else waits_submits side l g.submitted (waits_at side l g.waits))
    (within_hand histories now (all_given histories past))
    ∙ ap (λ (sdu : Option Submission). if is_handover now.line then 0
    else waits_submits side l sdu (waits_at side l g.waits))
    (left_is histories now.line now.events (all_given histories past))

pub waits_by_records : WaitsByRecords
waits_by_records side l now past low = record {
  begins =
      waits_same side l (after_line histories now.line (all_given histories past))
      (one_line histories l now.line (channel_in l (all_given histories past)))
      (((one_channel_by_steps History histories).alone l (all_given histories past) low
      (given_has histories past)).line now.line)
      ∙ line_waits side l now (all_given histories past);
  goes = λ told one. waits_go side l low now past told one;
  ends = waits_end side l low now past;
}

-- ---- whether something may be taken

behind_both : {T : Type 0} (k : Keeper T) (xs ys : List Record) (g : Giving T)
    → behind_records k (xs ++ ys) g ≡ behind_records k xs (behind_records k ys g)
behind_both k [] ys g = refl
behind_both k (x ∷ xs) ys g = ap (after_record k x) (behind_both k xs ys g)

in_order : {T : Type 0} (k : Keeper T) (told : List Record) (g : Giving T)
    → behind_records k (reverse told) g ≡ after_records k told g
in_order k [] g = refl
in_order k (one ∷ told) g =
    ap (λ (xs : List Record). behind_records k xs g) (reverse-append (one ∷ []) told)
    ∙ behind_both k (reverse told) (one ∷ []) g ∙ in_order k told (after_record k one g)

pub may_take_by_records : MayTakeByRecords
may_take_by_records l newer now past told side low =
    let g = given_within histories (first_of now told) (all_given histories past) in
    let one = expires side l in
    let there =
    may_there histories (newer ++ now ∷ past) newer now past refl (reverse told) (expires side l)
    ∙ ap (λ (x : Giving History). may_take histories (expires side l) (settled histories (expires side l) x))
    (in_order histories told (after_line histories now.line (all_given histories past))) in
    let bearer = sym (settled_so l low now past told (expires side l)) in
    let waits = waits_so side l low now past told (expires side l) in
    let s = settled histories (expires side l) g in
    record {
      acked = λ b some. there
          ∙ ap (λ (o : Option (Bearer History)). offers histories side o (waits_at side l s.waits)) (bearer ∙ some);
      others = λ none. there
          ∙ ap (λ (o : Option (Bearer History)). offers histories side o (waits_at side l s.waits)) (bearer ∙ none)
          ∙ ap (nat_lt 0) waits;
    }
