-- What goes up in deeds, and of which events it is told.
use Rattle.std.proofs.Common.{◌≡◌, ℕ, List, [], ◌∷◌, ◌++◌, map, append_assoc, refl, ap, sym, ◌∙◌}
use Rattle.std.specs.List.{AllByRecursion}
use Rattle.bearer_types.specs.declared.Event.{Event}
use Rattle.bearer_pdcp.specs.Hearing.{ups}
use Rattle.law_rlc.specs.AmReceiver.Run.{Arrive, Up, Write, ExpireReorder, ExpireProhibit, TickReorder, TickProhibit}
use Rattle.law_rlc.specs.AmSender.Run.{Offer, Take, Status, Tick, Expire, Settle, Confirm}
use Rattle.bearer.specs.Acknowledged.State.{State}
use Rattle.law_bearer.specs.AmBearer.Deeds.{Deed, Feeds, Sends, Confirms, Receives, HandsUp, Asks, Sets, does, does_all}
use Rattle.law_bearer.specs.AmBearer.Deeds.{goes_up, go_up}
use Rattle.law_bearer.specs.AmBearer.Calls.{up_in, ups_among}

-- ---- deeds one behind the other

pub does_then : (xs ys : List Deed) (b : State) → does_all (xs ++ ys) b ≡ does_all ys (does_all xs b)
does_then [] ys b = refl
does_then (x ∷ xs) ys b = does_then xs ys (does b x)

-- ---- events one behind the other

pub ups_then : (xs ys : List Event) → ups_among (xs ++ ys) ≡ ups_among xs ++ ups_among ys
ups_then [] ys = refl
ups_then (x ∷ xs) ys =
    ap (λ l. up_in x ++ l) (ups_then xs ys) ∙ sym (append_assoc (up_in x) (ups_among xs) (ups_among ys))

pub none_then : (xs ys : List Event) → ups_among xs ≡ [] → ups_among ys ≡ [] → ups_among (xs ++ ys) ≡ []
none_then xs ys p q = ups_then xs ys ∙ ap (λ l. l ++ ups_among ys) p ∙ q

pub ups_are : (lcid : ℕ) (sdus : List (List ℕ)) → ups_among (ups lcid sdus) ≡ sdus
ups_are lcid [] = refl
ups_are lcid (sdu ∷ sdus) = ap (λ l. sdu ∷ l) (ups_are lcid sdus)

-- ---- deeds at which nothing goes up, and behind which nothing is left over

abbrev pub IsQuiet : Deed → Type 0
IsQuiet Feeds = Unit {0}
IsQuiet (Sends (Offer sdu)) = Unit {0}
IsQuiet (Sends (Take size held more)) = Unit {0}
IsQuiet (Sends (Status status)) = ⊥
IsQuiet (Sends Tick) = Unit {0}
IsQuiet (Sends (Expire more)) = Unit {0}
IsQuiet (Sends (Settle more)) = Unit {0}
IsQuiet (Sends Confirm) = Unit {0}
IsQuiet Confirms = Unit {0}
IsQuiet (Receives (Arrive pdu)) = ⊥
IsQuiet (Receives Up) = Unit {0}
IsQuiet (Receives Write) = Unit {0}
IsQuiet (Receives ExpireReorder) = Unit {0}
IsQuiet (Receives ExpireProhibit) = Unit {0}
IsQuiet (Receives TickReorder) = Unit {0}
IsQuiet (Receives TickProhibit) = Unit {0}
IsQuiet HandsUp = ⊥
IsQuiet (Asks c) = Unit {0}
IsQuiet (Sets ttis) = Unit {0}

abbrev pub AreQuiet : List Deed → Type 0
AreQuiet deeds = AllByRecursion IsQuiet deeds

pub quiet_then : (xs ys : List Deed) → AreQuiet xs → AreQuiet ys → AreQuiet (xs ++ ys)
quiet_then [] ys h k = k
quiet_then (x ∷ xs) ys h k = (h.0, quiet_then xs ys h.1 k)

pub quiet_each : {A : Type 0} (deed : Deed) (xs : List A) → IsQuiet deed → AreQuiet (map (λ x. deed) xs)
quiet_each deed [] q = tt
quiet_each deed (x ∷ xs) q = (q, quiet_each deed xs q)

quiet_one : (deed : Deed) (b : State) → IsQuiet deed → goes_up b deed ≡ []
quiet_one Feeds b q = refl
quiet_one (Sends c) b q = refl
quiet_one Confirms b q = refl
quiet_one (Receives c) b q = refl
quiet_one HandsUp b q = absurd q
quiet_one (Asks c) b q = refl
quiet_one (Sets ttis) b q = refl

pub quiet_up : (deeds : List Deed) (b : State) → AreQuiet deeds → go_up deeds b ≡ []
quiet_up [] b q = refl
quiet_up (deed ∷ deeds) b q = ap (λ l. l ++ go_up deeds (does b deed)) (quiet_one deed b q.0)
    ∙ quiet_up deeds (does b deed) q.1
