-- SDUs that wait are moved one by one, until there are so many.
use Rattle.std.proofs.Common.{◌≡◌, ℕ, suc, ◌-◌, ◌<◌, ◌≤◌, List, [], ◌∷◌, ◌++◌, length, take, drop, ap, sym, ◌∙◌}
use Rattle.std.proofs.Common.{arith, append-nil}
use Rattle.std.proofs.lemmas.List.{length_push}
use Rattle.journal_delivered.proofs.Lists.{Sdus, push_front}

abbrev pub filled_to : ℕ → Sdus → Sdus → Sdus
filled_to room taken waiting = taken ++ take (room - length taken) waiting

abbrev pub left_to : ℕ → Sdus → Sdus → Sdus
left_to room taken waiting = drop (room - length taken) waiting

pub fill_next : (room : ℕ) (taken more waiting rest : Sdus) (sdu : List ℕ) → length taken < room
    → more ≡ taken ++ sdu ∷ [] → waiting ≡ sdu ∷ rest → filled_to room more rest ≡ filled_to room taken waiting
fill_next room taken more waiting rest sdu lt m w =
    let n : room - length taken ≡ suc (room - length (taken ++ sdu ∷ [])) = omega (arith, lt, length_push taken sdu) in
    ap (λ (ts : Sdus). filled_to room ts rest) m
    ∙ push_front taken (take (room - length (taken ++ sdu ∷ [])) rest) sdu
    ∙ ap (λ (k : ℕ). taken ++ take k (sdu ∷ rest)) (sym n)
    ∙ ap (λ (ws : Sdus). filled_to room taken ws) (sym w)

pub left_next : (room : ℕ) (taken more waiting rest : Sdus) (sdu : List ℕ) → length taken < room
    → more ≡ taken ++ sdu ∷ [] → waiting ≡ sdu ∷ rest → left_to room more rest ≡ left_to room taken waiting
left_next room taken more waiting rest sdu lt m w =
    let n : room - length taken ≡ suc (room - length (taken ++ sdu ∷ [])) = omega (arith, lt, length_push taken sdu) in
    ap (λ (ts : Sdus). left_to room ts rest) m
    ∙ ap (λ (k : ℕ). drop k (sdu ∷ rest)) (sym n)
    ∙ ap (λ (ws : Sdus). left_to room taken ws) (sym w)

pub filled_full : (room : ℕ) (taken waiting : Sdus) → room ≤ length taken → filled_to room taken waiting ≡ taken
filled_full room taken waiting h =
    let none : room - length taken ≡ 0 = omega (arith, h) in
    ap (λ (k : ℕ). taken ++ take k waiting) none ∙ append-nil taken

pub left_full : (room : ℕ) (taken waiting : Sdus) → room ≤ length taken → left_to room taken waiting ≡ waiting
left_full room taken waiting h =
    let none : room - length taken ≡ 0 = omega (arith, h) in
    ap (λ (k : ℕ). drop k waiting) none

pub ruleset fills = (fill_next, left_next, filled_full, left_full)
