-- Group by group, the verdict is exact.
use Rattle.std.proofs.Common.{◌≡◌, ℕ, zero, suc, ◌<◌, ◌≤◌, Bool, true, false, List, [], ◌∷◌, ◌++◌, length, take}
use Rattle.std.proofs.Common.{Option, Some, None, inl, inr, ◌↔◌, ◌⊎◌, refl, ap, sym, ◌∙◌, arith, if◌then◌else◌, map}
use Rattle.std.proofs.Common.{slice_index_or, append-nil, append_assoc, subst}
use Rattle.std.specs.Prelude.{IsTrue, ◌||◌, ◌&&◌, ◌==◌, cond}
use Rattle.std.specs.List.{filter}
use Rattle.std.proofs.lemmas.Bool.{and_parts, and_from, eqb-true, false≢true}
use Rattle.std.proofs.lemmas.List.{get_or-replicate, map-append}
use Rattle.std.proofs.lemmas.Grind.{flat_map-append}
use Rattle.l2_types.specs.declared.channel.Kind.{Kind}
use Rattle.l2_types.specs.declared.channel.Kind.TheVariants.{Tm, Srb, Um, Am}
use Rattle.l2_types.specs.declared.side.Side.{Side}
use Rattle.l2_types.specs.declared.side.Side.TheVariants.{Nb, Ue}
use Rattle.bearer_types.specs.declared.config.BearerConfig.{BearerConfig}
use Rattle.bearer_types.specs.declared.event.Event.{Event}
use Rattle.air_record.specs.declared.line.Line.{Line}
use Rattle.air_record.specs.declared.line.Line.TheVariants as lines
use Rattle.air_record.specs.declared.record.Record.{Record}
use Rattle.air_text.specs.Groups.{Group, history, group_records}
use Rattle.promises.specs.Configs.{config_by, config_of}
use Rattle.promises.specs.Delivery.{forges, is_forged}
use Rattle.promises.specs.Flows.{handed_in, looped_at, submitted}
use Rattle.promises.specs.Parts.{is_handover, part_of_line}
use Rattle.promises.specs.Records.{is_looped, sdu_of, event_of, events_of}
use Rattle.promises.specs.Signalling.{submitted_since}
use Rattle.promises.specs.Taken.{length_in, lengths_on}
use Rattle.promises.specs.Takes.{left_since}
use Rattle.promises.specs.Takes.{SdusLeaveInOrder, SignalsLeaveInOrder}
use Rattle.journal_form.specs.Lines.{HasLayout}
use Rattle.journal_queues.specs.Leaving.{Leaving, Queue, no_bearer, queue_told, queue_given, handed_over, begun_as}
use Rattle.journal_queues.specs.Leaving.{none_left, with_told, with_sdu, is_even, is_queue_right}
use Rattle.journal_queues.specs.QueueChecking.{Checking, nothing_checked, all_right, after_line}
use Rattle.journal_queues.specs.QueueChecking.{record_told, submitted_by, released, judged, all_checked}
use Rattle.journal_queues.specs.QueueLaws.{HaveLayouts, ComesNew, BearersAreNew}
use Rattle.journal_queues.proofs.Compared.{compared, told_compared, sdu_compared, even_sound, even_complete}
use Rattle.journal_queues.proofs.Queues.{queue_at, Sizes, all_told, all_submitted, lens_looped, heard, record_at}
use Rattle.journal_queues.proofs.Queues.{record_sizes, all_records, records_sizes, records_else, left_of, releases}
use Rattle.journal_queues.proofs.Queues.{settles_first, released_sizes, lens_handed, own_at, queue_by, line_at}
use Rattle.journal_queues.proofs.Queues.{line_sizes, line_right, forged_else}

-- ---- the queue of a channel, by its bearer

abbrev queue_as : Kind → Leaving → Leaving → Queue
queue_as Um a b = record { all = Some a; life = None; begun = true }
queue_as Am a b = record { all = None; life = None; begun = true }
queue_as Tm a b = record { all = None; life = Some b; begun = true }
queue_as Srb a b = record { all = None; life = Some b; begun = true }

abbrev queue_of : Option BearerConfig → Leaving → Leaving → Queue
queue_of None a b = record { all = Some a; life = Some b; begun = false }
queue_of (Some config) a b = queue_as config.kind a b

abbrev queue_with : Option BearerConfig → List ℕ → List ℕ → List ℕ → List ℕ → Queue
queue_with o xs ys us vs = queue_of o (compared xs ys) (compared us vs)

-- ---- SDUs are told of

told_as : (k : Kind) (n : ℕ) (a b : Leaving)
    → queue_told n (queue_as k a b) ≡ queue_as k (with_told n a) (with_told n b)
told_as Um n a b = refl
told_as Am n a b = refl
told_as Tm n a b = refl
told_as Srb n a b = refl

told_of : (o : Option BearerConfig) (n : ℕ) (a b : Leaving)
    → queue_told n (queue_of o a b) ≡ queue_of o (with_told n a) (with_told n b)
told_of None n a b = refl
told_of (Some config) n a b = told_as config.kind n a b

told_with : (o : Option BearerConfig) (n : ℕ) (xs ys us vs : List ℕ)
    → queue_told n (queue_with o xs ys us vs) ≡ queue_with o (xs ++ n ∷ []) ys (us ++ n ∷ []) vs
told_with o n xs ys us vs =
    told_of o n (compared xs ys) (compared us vs)
    ∙ ap (λ (a : Leaving). queue_of o a (with_told n (compared us vs))) (told_compared n xs ys)
    ∙ ap (λ (b : Leaving). queue_of o (compared (xs ++ n ∷ []) ys) b) (told_compared n us vs)

all_told_with : (o : Option BearerConfig) (ns xs ys us vs : List ℕ)
    → all_told ns (queue_with o xs ys us vs) ≡ queue_with o (xs ++ ns) ys (us ++ ns) vs
all_told_with o [] xs ys us vs =
    ap (λ (zs : List ℕ). queue_with o zs ys us vs) (sym (append-nil xs))
    ∙ ap (λ (zs : List ℕ). queue_with o (xs ++ []) ys zs vs) (sym (append-nil us))
all_told_with o (n ∷ ns) xs ys us vs =
    ap (all_told ns) (told_with o n xs ys us vs)
    ∙ all_told_with o ns (xs ++ n ∷ []) ys (us ++ n ∷ []) vs
    ∙ ap (λ (zs : List ℕ). queue_with o zs ys ((us ++ n ∷ []) ++ ns) vs) (append_assoc xs (n ∷ []) ns)
    ∙ ap (λ (zs : List ℕ). queue_with o (xs ++ n ∷ ns) ys zs vs) (append_assoc us (n ∷ []) ns)

-- ---- SDUs are submitted

given_as : (k : Kind) (n : ℕ) (a b : Leaving)
    → queue_given n (queue_as k a b) ≡ queue_as k (with_sdu n a) (with_sdu n b)
given_as Um n a b = refl
given_as Am n a b = refl
given_as Tm n a b = refl
given_as Srb n a b = refl

given_of : (o : Option BearerConfig) (n : ℕ) (a b : Leaving)
    → queue_given n (queue_of o a b) ≡ queue_of o (with_sdu n a) (with_sdu n b)
given_of None n a b = refl
given_of (Some config) n a b = given_as config.kind n a b

given_with : (o : Option BearerConfig) (n : ℕ) (xs ys us vs : List ℕ)
    → queue_given n (queue_with o xs ys us vs) ≡ queue_with o xs (ys ++ n ∷ []) us (vs ++ n ∷ [])
given_with o n xs ys us vs =
    given_of o n (compared xs ys) (compared us vs)
    ∙ ap (λ (a : Leaving). queue_of o a (with_sdu n (compared us vs))) (sdu_compared n xs ys)
    ∙ ap (λ (b : Leaving). queue_of o (compared xs (ys ++ n ∷ [])) b) (sdu_compared n us vs)

all_given_with : (o : Option BearerConfig) (ns xs ys us vs : List ℕ)
    → all_submitted ns (queue_with o xs ys us vs) ≡ queue_with o xs (ys ++ ns) us (vs ++ ns)
all_given_with o [] xs ys us vs =
    ap (λ (zs : List ℕ). queue_with o xs zs us vs) (sym (append-nil ys))
    ∙ ap (λ (zs : List ℕ). queue_with o xs (ys ++ []) us zs) (sym (append-nil vs))
all_given_with o (n ∷ ns) xs ys us vs =
    ap (all_submitted ns) (given_with o n xs ys us vs)
    ∙ all_given_with o ns xs (ys ++ n ∷ []) us (vs ++ n ∷ [])
    ∙ ap (λ (zs : List ℕ). queue_with o xs zs us ((vs ++ n ∷ []) ++ ns)) (append_assoc ys (n ∷ []) ns)
    ∙ ap (λ (zs : List ℕ). queue_with o xs (ys ++ n ∷ ns) us zs) (append_assoc vs (n ∷ []) ns)

-- ---- records

looped_step : (s : Side) (l : ℕ) (one : Record) (told : List Record)
    → lens_looped s l (one ∷ []) ++ lens_looped s l told ≡ lens_looped s l (one ∷ told)
looped_step Nb l one told = refl
looped_step Ue l one told = by (is_looped l one)
  where
    by : (b : Bool) → map (λ sdu. length sdu) (map sdu_of (cond b (one ∷ []) []))
        ++ map (λ sdu. length sdu) (map sdu_of (filter (is_looped l) told))
        ≡ map (λ sdu. length sdu) (map sdu_of (cond b (one ∷ filter (is_looped l) told) (filter (is_looped l) told)))
    by true = refl
    by false = refl

told_step : (s : Side) (l : ℕ) (one : Record) (told : List Record)
    → lengths_on l (event_of s one) ++ lengths_on l (events_of s told) ≡ lengths_on l (events_of s (one ∷ told))
told_step s l one told = sym (flat_map-append (length_in l) (event_of s one) (events_of s told))

no_more : (s : Side) (l : ℕ) → lens_looped s l [] ≡ []
no_more Nb l = refl
no_more Ue l = refl

-- so much more is told of, and so much more is submitted
more_with : (o : Option BearerConfig) (ns ms xs ys us vs : List ℕ)
    → all_submitted ms (all_told ns (queue_with o xs ys us vs))
    ≡ queue_with o (xs ++ ns) (ys ++ ms) (us ++ ns) (vs ++ ms)
more_with o ns ms xs ys us vs =
    ap (all_submitted ms) (all_told_with o ns xs ys us vs) ∙ all_given_with o ms (xs ++ ns) ys (us ++ ns) vs

joined_with : (o : Option BearerConfig) (ts tu gs gt ms ns xs ys us vs : List ℕ) → ts ++ tu ≡ ns → gs ++ gt ≡ ms
    → queue_with o ((xs ++ ts) ++ tu) ((ys ++ gs) ++ gt) ((us ++ ts) ++ tu) ((vs ++ gs) ++ gt)
    ≡ queue_with o (xs ++ ns) (ys ++ ms) (us ++ ns) (vs ++ ms)
joined_with o ts tu gs gt ms ns xs ys us vs e f =
    ap (λ (zs : List ℕ). queue_with o zs ((ys ++ gs) ++ gt) ((us ++ ts) ++ tu) ((vs ++ gs) ++ gt))
    (append_assoc xs ts tu ∙ ap (λ (zs : List ℕ). xs ++ zs) e)
    ∙ ap (λ (zs : List ℕ). queue_with o (xs ++ ns) zs ((us ++ ts) ++ tu) ((vs ++ gs) ++ gt))
    (append_assoc ys gs gt ∙ ap (λ (zs : List ℕ). ys ++ zs) f)
    ∙ ap (λ (zs : List ℕ). queue_with o (xs ++ ns) (ys ++ ms) zs ((vs ++ gs) ++ gt))
    (append_assoc us ts tu ∙ ap (λ (zs : List ℕ). us ++ zs) e)
    ∙ ap (λ (zs : List ℕ). queue_with o (xs ++ ns) (ys ++ ms) (us ++ ns) zs)
    (append_assoc vs gs gt ∙ ap (λ (zs : List ℕ). vs ++ zs) f)

records_with : (s : Side) (l : ℕ) (o : Option BearerConfig) (told : List Record) (xs ys us vs : List ℕ) (c : Checking)
    → Sizes c → l ≤ 10 → queue_at s l c ≡ queue_with o xs ys us vs
    → queue_at s l (all_records told c)
    ≡ queue_with o (xs ++ lengths_on l (events_of s told)) (ys ++ lens_looped s l told)
    (us ++ lengths_on l (events_of s told)) (vs ++ lens_looped s l told)
records_with s l o [] xs ys us vs c size low e =
    e ∙ more_with o [] [] xs ys us vs
    ∙ ap (λ (zs : List ℕ). queue_with o (xs ++ []) (ys ++ zs) (us ++ []) (vs ++ zs)) (sym (no_more s l))
records_with s l o (one ∷ told) xs ys us vs c size low e =
    let ns = lengths_on l (event_of s one) in
    let ms = lens_looped s l (one ∷ []) in
    records_with s l o told (xs ++ ns) (ys ++ ms) (us ++ ns) (vs ++ ms) (record_told one c) (record_sizes one c size)
    low (record_at s one l c size low ∙ ap (heard s l one) e ∙ more_with o ns ms xs ys us vs)
    ∙ joined_with o ns (lengths_on l (events_of s told)) ms (lens_looped s l told) (lens_looped s l (one ∷ told))
    (lengths_on l (events_of s (one ∷ told))) xs ys us vs (told_step s l one told) (looped_step s l one told)

-- ---- a line

begun_of : (k : Kind) (a b : Leaving) → begun_as k (queue_of None a b) ≡ queue_as k a b
begun_of Um a b = refl
begun_of Am a b = refl
begun_of Tm a b = refl
begun_of Srb a b = refl

handed_as : (k : Kind) (a b : Leaving) → handed_over (queue_as k a b) ≡ queue_as k a none_left
handed_as Um a b = refl
handed_as Am a b = refl
handed_as Tm a b = refl
handed_as Srb a b = refl

handed_of : (o : Option BearerConfig) (a b : Leaving) → handed_over (queue_of o a b) ≡ queue_of o a none_left
handed_of None a b = refl
handed_of (Some config) a b = handed_as config.kind a b

abbrev in_life : Line → List ℕ → List ℕ
in_life line ns = if is_handover line then [] else ns

line_with : (l : ℕ) (line : Line) (past : List Group) → ComesNew line past → (xs ys us vs : List ℕ)
    → queue_by l line (queue_with (config_of l past) xs ys us vs)
    ≡ queue_with (config_by l line (config_of l past)) xs ys (in_life line us) (in_life line vs)
line_with l (lines.Bearer config options) past new xs ys us vs =
    by (config.channel.lcid == l) (config_of l past)
    (λ is. ap (λ (n : ℕ). config_of n past) (sym (eqb-true config.channel.lcid l is)) ∙ new)
  where
    by : (b : Bool) (o : Option BearerConfig) → (b ≡ true → o ≡ None)
        → (if b then begun_as config.kind (queue_with o xs ys us vs) else queue_with o xs ys us vs)
        ≡ queue_with (if b then Some config else o) xs ys us vs
    by true o none =
        ap (λ (p : Option BearerConfig). begun_as config.kind (queue_with p xs ys us vs)) (none refl)
        ∙ begun_of config.kind (compared xs ys) (compared us vs)
    by false o none = refl
line_with l (lines.Handover user rrc integrity) past new xs ys us vs =
    handed_of (config_of l past) (compared xs ys) (compared us vs)
line_with l line past new xs ys us vs = refl

-- ---- what a journal leaves of each queue

abbrev lens : List (List ℕ) → List ℕ
lens sdus = map (λ sdu. length sdu) sdus

abbrev queue_for : Side → ℕ → List Group → Queue
queue_for s l past =
    queue_with (config_of l past) (lengths_on l (events_of s (history past))) (lens (submitted s l past))
    (left_since s l past) (lens (submitted_since s l past))

record Kept (past : List Group) : Type 0 where
  size : Sizes (all_checked past)
  at : (s : Side) (l : ℕ) → l ≤ 10 → queue_at s l (all_checked past) ≡ queue_for s l past
  forged : (all_checked past).forged ≡ is_forged past

events_append : (s : Side) (xs ys : List Record) → events_of s (xs ++ ys) ≡ events_of s xs ++ events_of s ys
events_append s [] ys = refl
events_append s (x ∷ xs) ys =
    ap (λ (es : List Event). event_of s x ++ es) (events_append s xs ys)
    ∙ sym (append_assoc (event_of s x) (events_of s xs) (events_of s ys))

told_is : (s : Side) (l : ℕ) (g : Group) (past : List Group)
    → lengths_on l (events_of s (history past)) ++ lengths_on l (events_of s g.events)
    ≡ lengths_on l (events_of s (history (g ∷ past)))
told_is s l g past =
    sym (flat_map-append (length_in l) (events_of s (history past)) (events_of s g.events))
    ∙ ap (lengths_on l) (sym (events_append s (history past) (group_records g)))

given_is : (before handed looped : List (List ℕ))
    → (lens before ++ lens handed) ++ lens looped ≡ lens (before ++ (handed ++ looped))
given_is before handed looped =
    append_assoc (lens before) (lens handed) (lens looped)
    ∙ ap (λ (ns : List ℕ). lens before ++ ns) (sym (map-append (λ sdu. length sdu) handed looped))
    ∙ sym (map-append (λ sdu. length sdu) before (handed ++ looped))

since_is : (b : Bool) (before handed looped : List (List ℕ))
    → ((if b then [] else lens before) ++ lens handed) ++ lens looped
    ≡ lens ((if b then [] else before) ++ (handed ++ looped))
since_is true before handed looped = sym (map-append (λ sdu. length sdu) handed looped)
since_is false before handed looped = given_is before handed looped

judged_at : (s : Side) (l : ℕ) (c : Checking) → queue_at s l (judged c) ≡ queue_at s l c
judged_at Nb l c = refl
judged_at Ue l c = refl

judged_sizes : (c : Checking) → Sizes c → Sizes (judged c)
judged_sizes c size Nb = size Nb
judged_sizes c size Ue = size Ue

abbrev begun_by : Group → List Group → Checking
begun_by g past = after_line g.line (all_checked past)

-- behind the SDU of its line, and then behind its records
abbrev given_by_line : Group → List Group → Checking
given_by_line g past = released (left_of g.events (submitted_by g.line)) (begun_by g past)

abbrev told_by_group : Group → List Group → Checking
told_by_group g past = all_records g.events (given_by_line g past)

next_is : (g : Group) (past : List Group) → all_checked (g ∷ past) ≡ judged (told_by_group g past)
next_is g past = ap judged (settles_first g.events (begun_by g past))

given_sizes : (g : Group) (past : List Group) → Kept past → Sizes (given_by_line g past)
given_sizes g past k =
    released_sizes (left_of g.events (submitted_by g.line)) (begun_by g past)
    (line_sizes g.line (all_checked past) k.size)

told_sizes : (g : Group) (past : List Group) → Kept past → Sizes (told_by_group g past)
told_sizes g past k = records_sizes g.events (given_by_line g past) (given_sizes g past k)

given_at : (s : Side) (l : ℕ) (g : Group) (past : List Group) → ComesNew g.line past → Kept past → l ≤ 10
    → queue_at s l (given_by_line g past)
    ≡ queue_with (config_of l (g ∷ past)) (lengths_on l (events_of s (history past)))
    (lens (submitted s l past) ++ lens_handed s l g.line g.events) (in_life g.line (left_since s l past))
    (in_life g.line (lens (submitted_since s l past)) ++ lens_handed s l g.line g.events)
given_at s l g past new k low =
    own_at s g.line g.events l (begun_by g past) (line_sizes g.line (all_checked past) k.size) low
    ∙ ap (all_submitted (lens_handed s l g.line g.events))
    (line_at s g.line l (all_checked past) k.size low ∙ ap (queue_by l g.line) (k.at s l low)
    ∙ line_with l g.line past new (lengths_on l (events_of s (history past))) (lens (submitted s l past))
    (left_since s l past) (lens (submitted_since s l past)))
    ∙ all_given_with (config_of l (g ∷ past)) (lens_handed s l g.line g.events)
    (lengths_on l (events_of s (history past))) (lens (submitted s l past)) (in_life g.line (left_since s l past))
    (in_life g.line (lens (submitted_since s l past)))

ends_at : (s : Side) (l : ℕ) (g : Group) (past : List Group) → ComesNew g.line past → Kept past → l ≤ 10
    → queue_at s l (told_by_group g past) ≡ queue_for s l (g ∷ past)
ends_at s l g past new k low =
    let o = config_of l (g ∷ past) in
    let handed = handed_in s l (part_of_line g.line) g.events in
    let looped = looped_at s l g.events in
    let before = lens (submitted s l past) in
    let since = in_life g.line (lens (submitted_since s l past)) in
    records_with s l o g.events (lengths_on l (events_of s (history past))) (before ++ lens handed)
    (in_life g.line (left_since s l past)) (since ++ lens handed) (given_by_line g past) (given_sizes g past k) low
    (given_at s l g past new k low)
    ∙ ap (λ (ns : List ℕ). queue_with o ns ((before ++ lens handed) ++ lens looped) (left_since s l (g ∷ past))
    ((since ++ lens handed) ++ lens looped)) (told_is s l g past)
    ∙ ap (λ (ns : List ℕ). queue_with o (lengths_on l (events_of s (history (g ∷ past)))) ns
    (left_since s l (g ∷ past)) ((since ++ lens handed) ++ lens looped))
    (given_is (submitted s l past) handed looped)
    ∙ ap (λ (ns : List ℕ). queue_with o (lengths_on l (events_of s (history (g ∷ past))))
    (lens (submitted s l (g ∷ past))) (left_since s l (g ∷ past)) ns)
    (since_is (is_handover g.line) (submitted_since s l past) handed looped)

first_at : (s : Side) (l : ℕ) → l ≤ 10 → queue_at s l nothing_checked ≡ no_bearer
first_at Nb l low = get_or-replicate 11 l no_bearer no_bearer (omega (arith, low))
first_at Ue l low = get_or-replicate 11 l no_bearer no_bearer (omega (arith, low))

first_sizes : Sizes nothing_checked
first_sizes Nb = refl
first_sizes Ue = refl

kept : (past : List Group) → BearersAreNew past → Kept past
kept [] new = record { size = first_sizes; at = first_at; forged = refl }
kept (g ∷ past) new =
    let k = kept past new.1 in
    let c = told_by_group g past in
    let next = next_is g past in
    record {
      size = subst Sizes (sym next) (judged_sizes c (told_sizes g past k));
      at = λ s l low. ap (queue_at s l) next ∙ judged_at s l c ∙ ends_at s l g past new.0 k low;
      forged =
          ap (λ (d : Checking). d.forged) next
          ∙ (records_else g.events (given_by_line g past)).forged
          ∙ (releases (left_of g.events (submitted_by g.line)) (begun_by g past)).forged
          ∙ ap (λ (b : Bool). forges g.line || b) (forged_else g.line (all_checked past) ∙ k.forged);
    }

-- ---- whether each queue is right

rights_sound : (qs : List Queue) → all_right qs ≡ true → (i : ℕ) → i < length qs
    → is_queue_right (slice_index_or qs i no_bearer) ≡ true
rights_sound [] h i lt = absurd (omega (arith, lt))
rights_sound (q ∷ qs) h zero lt = (and_parts (is_queue_right q) (all_right qs) h).0
rights_sound (q ∷ qs) h (suc i) lt =
    rights_sound qs (and_parts (is_queue_right q) (all_right qs) h).1 i (omega (arith, lt))

rights_complete : (qs : List Queue)
    → ((i : ℕ) → i < length qs → is_queue_right (slice_index_or qs i no_bearer) ≡ true) → all_right qs ≡ true
rights_complete [] h = refl
rights_complete (q ∷ qs) h =
    and_from (is_queue_right q) (all_right qs) (h 0 (omega arith))
    (rights_complete qs (λ i lt. h (suc i) (omega (arith, lt))))

abbrev are_right : Checking → Bool
are_right c = all_right c.nb && all_right c.ue

at_sound : (c : Checking) → Sizes c → are_right c ≡ true → (s : Side) (l : ℕ) → l ≤ 10
    → is_queue_right (queue_at s l c) ≡ true
at_sound c size h Nb l low =
    rights_sound c.nb (and_parts (all_right c.nb) (all_right c.ue) h).0 l (omega (arith, size Nb, low))
at_sound c size h Ue l low =
    rights_sound c.ue (and_parts (all_right c.nb) (all_right c.ue) h).1 l (omega (arith, size Ue, low))

at_complete : (c : Checking) → Sizes c
    → ((s : Side) (l : ℕ) → l ≤ 10 → is_queue_right (queue_at s l c) ≡ true) → are_right c ≡ true
at_complete c size h =
    and_from (all_right c.nb) (all_right c.ue)
    (rights_complete c.nb (λ i lt. h Nb i (omega (arith, size Nb, lt))))
    (rights_complete c.ue (λ i lt. h Ue i (omega (arith, size Ue, lt))))

-- ---- of one channel

all_sound : (k : Kind) (xs ys : List ℕ) (b : Leaving) → k ≡ Um → is_queue_right (queue_as k (compared xs ys) b) ≡ true
    → xs ≡ take (length xs) ys
all_sound Um xs ys b is h = even_sound xs ys (and_parts (is_even (compared xs ys)) true h).0
all_sound Am xs ys b is h = absurd cc
all_sound Tm xs ys b is h = absurd cc
all_sound Srb xs ys b is h = absurd cc

abbrev IsOfLife : Kind → Type 0
IsOfLife k = (k ≡ Tm) ⊎ (k ≡ Srb)

not_of_life : (k : Kind) → (k ≡ Tm → ⊥) → (k ≡ Srb → ⊥) → IsOfLife k → ⊥
not_of_life k a b (inl is) = a is
not_of_life k a b (inr is) = b is

life_sound : (k : Kind) (us vs : List ℕ) (a : Leaving) → IsOfLife k
    → is_queue_right (queue_as k a (compared us vs)) ≡ true → us ≡ take (length us) vs
life_sound Um us vs a is h = absurd (not_of_life Um (λ e. absurd cc) (λ e. absurd cc) is)
life_sound Am us vs a is h = absurd (not_of_life Am (λ e. absurd cc) (λ e. absurd cc) is)
life_sound Tm us vs a is h = even_sound us vs h
life_sound Srb us vs a is h = even_sound us vs h

as_complete : (k : Kind) (xs ys us vs : List ℕ) → (k ≡ Um → xs ≡ take (length xs) ys)
    → (IsOfLife k → us ≡ take (length us) vs) → is_queue_right (queue_as k (compared xs ys) (compared us vs)) ≡ true
as_complete Um xs ys us vs all life =
    and_from (is_even (compared xs ys)) true (even_complete xs ys (all refl)) refl
as_complete Am xs ys us vs all life = refl
as_complete Tm xs ys us vs all life = even_complete us vs (life (inl refl))
as_complete Srb xs ys us vs all life = even_complete us vs (life (inr refl))

-- ---- channels that there are

low_line : (l : ℕ) (config : BearerConfig) (line : Line) (o : Option BearerConfig) → HasLayout line
    → (o ≡ Some config → l ≤ 10) → config_by l line o ≡ Some config → l ≤ 10
low_line l config (lines.Bearer found options) o lay before e =
    by (found.channel.lcid == l) (λ is. eqb-true found.channel.lcid l is) e
  where
    by : (b : Bool) → (b ≡ true → found.channel.lcid ≡ l) → (if b then Some found else o) ≡ Some config → l ≤ 10
    by true same h = let here : found.channel.lcid ≡ l = same refl in omega (arith, here, lay.0)
    by false same h = before h
low_line l config line o lay before e = before e

low_channel : (l : ℕ) (config : BearerConfig) (past : List Group) → HaveLayouts past
    → config_of l past ≡ Some config → l ≤ 10
low_channel l config [] lay e = absurd cc
low_channel l config (g ∷ past) lay e =
    low_line l config g.line (config_of l past) lay.0 (λ h. low_channel l config past lay.1 h) e

-- ---- one more group

rights : (g : Group) (past : List Group) → (told_by_group g past).right ≡ (all_checked past).right
rights g past =
    (records_else g.events (given_by_line g past)).right
    ∙ (releases (left_of g.events (submitted_by g.line)) (begun_by g past)).right
    ∙ line_right g.line (all_checked past)

right_is : (g : Group) (past : List Group) → Kept (g ∷ past)
    → (all_checked (g ∷ past)).right
    ≡ ((all_checked past).right && (is_forged (g ∷ past) || are_right (all_checked (g ∷ past))))
right_is g past k =
    let next = next_is g past in
    ap (λ (d : Checking). d.right) next
    ∙ ap (λ (d : Checking). (told_by_group g past).right && (d.forged || are_right d)) (sym next)
    ∙ ap (λ (b : Bool). b && ((all_checked (g ∷ past)).forged || are_right (all_checked (g ∷ past)))) (rights g past)
    ∙ ap (λ (b : Bool). (all_checked past).right && (b || are_right (all_checked (g ∷ past)))) k.forged

unforged : (a b : Bool) → a ≡ false → (a || b) ≡ true → b ≡ true
unforged true b is h = absurd (false≢true (sym is))
unforged false b is h = h

forged_or : (a b : Bool) → (a ≡ false → b ≡ true) → (a || b) ≡ true
forged_or true b h = refl
forged_or false b h = h refl

right_at : (s : Side) (l : ℕ) (config : BearerConfig) (g : Group) (past : List Group) → HaveLayouts (g ∷ past)
    → Kept (g ∷ past) → (is_forged (g ∷ past) || are_right (all_checked (g ∷ past))) ≡ true
    → config_of l (g ∷ past) ≡ Some config → is_forged (g ∷ past) ≡ false
    → is_queue_right (queue_as config.kind
    (compared (lengths_on l (events_of s (history (g ∷ past)))) (lens (submitted s l (g ∷ past))))
    (compared (left_since s l (g ∷ past)) (lens (submitted_since s l (g ∷ past))))) ≡ true
right_at s l config g past lay k h e none =
    let low = low_channel l config (g ∷ past) lay e in
    ap (λ (o : Option BearerConfig). is_queue_right (queue_with o (lengths_on l (events_of s (history (g ∷ past))))
    (lens (submitted s l (g ∷ past))) (left_since s l (g ∷ past)) (lens (submitted_since s l (g ∷ past))))) (sym e)
    ∙ ap is_queue_right (sym (k.at s l low))
    ∙ at_sound (all_checked (g ∷ past)) k.size
    (unforged (is_forged (g ∷ past)) (are_right (all_checked (g ∷ past))) none h) s l low

sound : (past : List Group) → HaveLayouts past → BearersAreNew past → (all_checked past).right ≡ true
    → SdusLeaveInOrder past × SignalsLeaveInOrder past
sound [] lay new h = (tt, tt)
sound (g ∷ past) lay new h =
    let k = kept (g ∷ past) new in
    let p = and_parts (all_checked past).right (is_forged (g ∷ past) || are_right (all_checked (g ∷ past)))
    (sym (right_is g past k) ∙ h) in
    let before = sound past lay.1 new.1 p.0 in (
      (
        λ s l config e is none. all_sound config.kind (lengths_on l (events_of s (history (g ∷ past))))
            (lens (submitted s l (g ∷ past)))
            (compared (left_since s l (g ∷ past)) (lens (submitted_since s l (g ∷ past)))) is
            (right_at s l config g past lay k p.1 e none),
        before.0,
      ),
      (
        λ s l config e is none. life_sound config.kind (left_since s l (g ∷ past))
            (lens (submitted_since s l (g ∷ past)))
            (compared (lengths_on l (events_of s (history (g ∷ past)))) (lens (submitted s l (g ∷ past)))) is
            (right_at s l config g past lay k p.1 e none),
        before.1,
      ),
    )

of_right : (o : Option BearerConfig) (xs ys us vs : List ℕ)
    → ((config : BearerConfig) → o ≡ Some config → config.kind ≡ Um → xs ≡ take (length xs) ys)
    → ((config : BearerConfig) → o ≡ Some config → IsOfLife config.kind → us ≡ take (length us) vs)
    → is_queue_right (queue_with o xs ys us vs) ≡ true
of_right None xs ys us vs all life = refl
of_right (Some config) xs ys us vs all life =
    as_complete config.kind xs ys us vs (λ is. all config refl is) (λ is. life config refl is)

complete : (past : List Group) → BearersAreNew past → SdusLeaveInOrder past × SignalsLeaveInOrder past
    → (all_checked past).right ≡ true
complete [] new h = refl
complete (g ∷ past) new h =
    let k = kept (g ∷ past) new in
    let each : is_forged (g ∷ past) ≡ false → (s : Side) (l : ℕ) → l ≤ 10
    → is_queue_right (queue_at s l (all_checked (g ∷ past))) ≡ true =
    λ none s l low. ap is_queue_right (k.at s l low)
    ∙ of_right (config_of l (g ∷ past)) (lengths_on l (events_of s (history (g ∷ past))))
    (lens (submitted s l (g ∷ past))) (left_since s l (g ∷ past)) (lens (submitted_since s l (g ∷ past)))
    (λ config e is. h.0.0 s l config e is none) (λ config e is. h.1.0 s l config e is none) in
    right_is g past k
    ∙ and_from (all_checked past).right (is_forged (g ∷ past) || are_right (all_checked (g ∷ past)))
    (complete past new.1 (h.0.1, h.1.1))
    (forged_or (is_forged (g ∷ past)) (are_right (all_checked (g ∷ past)))
    (λ none. at_complete (all_checked (g ∷ past)) k.size (each none)))

pub exact : (past : List Group) → HaveLayouts past → BearersAreNew past
    → IsTrue (all_checked past).right ↔ (SdusLeaveInOrder past × SignalsLeaveInOrder past)
exact past lay new = (sound past lay new, complete past new)
