-- Runs of interactions: what follows from the replies, and from who gives them.
use Rattle.std.proofs.Common.{◌≡◌, List, [], ◌∷◌, ◌++◌, refl, ap, sym, ◌∙◌, subst}
use Rattle.interaction.specs.{Interactions.{Interaction, Returns, Asks}, Exchanges.{Exchange, replies, IsTrace, IsTracePrefix, AnswersAll}}

-- two interactions with the same replies
pub alike : {Q R A : Type 0} (fits : Q → R → Type 0) (t : Interaction Q R A) (x y : List (Exchange Q R)) (b c : A)
    → IsTrace fits t x b → IsTrace fits t y c → replies x ≡ replies y → (x ≡ y) × (b ≡ c)
alike fits (Returns a) [] [] b c h g same = (refl, h ∙ sym g)
alike fits (Returns a) (d ∷ x) y b c h g same = absurd h
alike fits (Returns a) [] (e ∷ y) b c h g same = absurd g
alike fits (Asks q f) [] y b c h g same = absurd h
alike fits (Asks q f) (d ∷ x) [] b c h g same = absurd g
alike {Q} {R} fits (Asks q f) (d ∷ x) (e ∷ y) b c h g same =
    let reply : d.reply ≡ e.reply = cc (same) in
    let rest = alike fits (f d.reply) x y b c h.2 (subst (λ (r : R). IsTrace fits (f r) y c) (sym reply) g.2) (cc (same)) in
    let heads : d ≡ e = ap (λ (q : Q). let z : Exchange Q R = record { asked = q; reply = d.reply } in z) (h.0 ∙ sym g.0)
    ∙ ap (λ (r : R). let z : Exchange Q R = record { asked = e.asked; reply = r } in z) reply in
    (cc (heads, rest.0), rest.1)

-- what has begun can go on to an end, if each question has a reply that fits
pub goes_on : {Q R A : Type 0} (fits : Q → R → Type 0) → ((q : Q) → (r : R) × fits q r) → (t : Interaction Q R A) (x : List (Exchange Q R))
    → IsTracePrefix fits t x → (y : List (Exchange Q R)) × (b : A) × IsTrace fits t (x ++ y) b
goes_on fits some (Returns a) [] h = ([], a, refl)
goes_on fits some (Returns a) (e ∷ x) h = absurd h
goes_on fits some (Asks q f) [] h =
    let r = some q in
    let rest = goes_on fits some (f r.0) [] tt in
    (record { asked = q; reply = r.0 } ∷ rest.0, rest.1, (refl, r.1, rest.2))
goes_on fits some (Asks q f) (e ∷ x) h =
    let rest = goes_on fits some (f e.reply) x h.2 in
    (rest.0, rest.1, (h.0, h.1, rest.2))

-- two interactions whose replies begin alike: none can end before the other
pub alike_first : {Q R A : Type 0} (fits : Q → R → Type 0) (t : Interaction Q R A) (x y u v : List (Exchange Q R)) (b c : A)
    → IsTrace fits t x b → IsTrace fits t y c → replies (x ++ u) ≡ replies (y ++ v) → (x ≡ y) × (b ≡ c)
alike_first fits (Returns a) [] [] u v b c h g same = (refl, h ∙ sym g)
alike_first fits (Returns a) (d ∷ x) y u v b c h g same = absurd h
alike_first fits (Returns a) [] (e ∷ y) u v b c h g same = absurd g
alike_first fits (Asks q f) [] y u v b c h g same = absurd h
alike_first fits (Asks q f) (d ∷ x) [] u v b c h g same = absurd g
alike_first {Q} {R} fits (Asks q f) (d ∷ x) (e ∷ y) u v b c h g same =
    let reply : d.reply ≡ e.reply = cc (same) in
    let rest = alike_first fits (f d.reply) x y u v b c h.2 (subst (λ (r : R). IsTrace fits (f r) y c) (sym reply) g.2) (cc (same)) in
    let heads : d ≡ e = ap (λ (q : Q). let z : Exchange Q R = record { asked = q; reply = d.reply } in z) (h.0 ∙ sym g.0)
    ∙ ap (λ (r : R). let z : Exchange Q R = record { asked = e.asked; reply = r } in z) reply in
    (cc (heads, rest.0), rest.1)

-- with who has one reply to each question there is one run
pub one_run : {S Q R A : Type 0} (meaning : S → Q → R → S → Type 0) (fits : Q → R → Type 0)
    → ((s : S) (q : Q) (r r' : R) (m m' : S) → meaning s q r m → meaning s q r' m' → (r ≡ r') × (m ≡ m'))
    → (t : Interaction Q R A) (s : S) (x y : List (Exchange Q R)) (b c : A) (u v : S)
    → AnswersAll meaning s x u → IsTrace fits t x b → AnswersAll meaning s y v → IsTrace fits t y c → (x ≡ y) × (b ≡ c) × (u ≡ v)
one_run meaning fits one (Returns a) s [] [] b c u v h p g q = (refl, p ∙ sym q, h ∙ sym g)
one_run meaning fits one (Returns a) s (d ∷ x) y b c u v h p g q = absurd p
one_run meaning fits one (Returns a) s [] (e ∷ y) b c u v h p g q = absurd q
one_run meaning fits one (Asks k f) s [] y b c u v h p g q = absurd p
one_run meaning fits one (Asks k f) s (d ∷ x) [] b c u v h p g q = absurd q
one_run {S} {Q} {R} meaning fits one (Asks k f) s (d ∷ x) (e ∷ y) b c u v h p g q =
    let same : d.asked ≡ e.asked = p.0 ∙ sym q.0 in
    let reply = one s e.asked d.reply e.reply h.0 g.0 (subst (λ (z : Q). meaning s z d.reply h.0) same h.1) g.1 in
    let rest = one_run meaning fits one (f d.reply) h.0 x y b c u v h.2 p.2
    (subst (λ (z : S). AnswersAll meaning z y v) (sym reply.1) g.2)
    (subst (λ (r : R). IsTrace fits (f r) y c) (sym reply.0) q.2) in
    let heads : d ≡ e = ap (λ (z : Q). let w : Exchange Q R = record { asked = z; reply = d.reply } in w) same
    ∙ ap (λ (r : R). let w : Exchange Q R = record { asked = e.asked; reply = r } in w) reply.0 in
    (cc (heads, rest.0), rest.1, rest.2)
