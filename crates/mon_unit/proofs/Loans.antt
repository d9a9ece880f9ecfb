-- What a service that holds loans leaves, and that what it answered is the run by `serve`.
use Rattle.std.proofs.Common.{◌≡◌, List, [], ◌∷◌, length, refl, sym, ap, ◌∙◌, subst}
use Rattle.interaction.specs.{Interactions.{Returns, Asks}, Exchanges.{AnswersAll}, declared.request.Request.{Request}}
use Rattle.interaction.{specs.declared.answer.Answer.{Answer}, specs.declared.answer.Answer.TheVariants.{Done}, proofs.Counting.{with_request}}
use Rattle.interaction.specs.{Asking.{Asking, Exchange, IsTrace, IsTracePrefix}, Counting.{Moment, Beginning, Requesting, Counted, Passed, requests_in}}
use Rattle.interaction.specs.Counting as counting
use Rattle.mon_access.specs.declared.account.Account.{Account}
use Rattle.mon_unit.specs.{declared.service.UnitService.{UnitService}, Serving.{Reach, serve}, Lent.{SameLoans, UnitAnswers, reach_of}}
use Rattle.mon_unit.{specs.Runs.{run, run_cut, passed}, proofs.Runs.{passing}}

same_here : (s t : UnitService) → t ≡ s → SameLoans s t
same_here s t h = record {
  account = ap (λ u. u.account) h;
  guard = ap (λ u. u.guard.ghost_name) h;
  catalogue = ap (λ u. u.catalogue.ghost_name) h;
  units = ap (λ u. u.units.ghost_name) h;
}

same_then : (s t u : UnitService) → SameLoans s t → SameLoans t u → SameLoans s u
same_then s t u p q = record {
  account = q.account ∙ p.account;
  guard = q.guard ∙ p.guard;
  catalogue = q.catalogue ∙ p.catalogue;
  units = q.units ∙ p.units;
}

-- it holds the same loans after any exchanges
pub same_loans : (s : UnitService) (x : List Exchange) (t : UnitService) → AnswersAll UnitAnswers s x t → SameLoans s t
same_loans s [] t h = same_here s t h
same_loans s (e ∷ x) t h = same_then s h.0 t h.1.0 (same_loans h.0 x t h.2)

-- one exchange of an account
one_served : (a : Account) (s : UnitService) (e : Exchange) (q : Request) (m : UnitService) → s.account.now ≡ a → e.asked ≡ q
    → UnitAnswers s e.asked e.reply m → serve a (reach_of s) q ≡ (e.reply, reach_of m)
one_served a s e q m is same h =
    subst (λ (k : Account). serve k (reach_of s) q ≡ (e.reply, reach_of m)) is
    (subst (λ (k : Request). serve s.account.now (reach_of s) k ≡ (e.reply, reach_of m)) same h.1)

still : (a : Account) (s m : UnitService) → s.account.now ≡ a → SameLoans s m → m.account.now ≡ a
still a s m is h = ap (λ x. x.now) h.account ∙ is

-- an interaction that it answered is the run over what it was lent
pub served_run : {A : Type 0} (a : Account) (t : Asking A) (s : UnitService) (x : List Exchange) (b : A) (s' : UnitService) → s.account.now ≡ a
    → AnswersAll UnitAnswers s x s' → IsTrace t x b → run (serve a) t (reach_of s) ≡ (b, reach_of s')
served_run a (Returns v) s [] b s' is h g = cc (ap reach_of h, g)
served_run a (Returns v) s (e ∷ x) b s' is h g = absurd g
served_run a (Asks q f) s [] b s' is h g = absurd g
served_run {A} a (Asks q f) s (e ∷ x) b s' is h g =
    ap (λ (p : Answer × Reach). run (serve a) (f p.0) p.1) (one_served a s e q h.0 is g.0 h.1)
    ∙ served_run a (f e.reply) h.0 x b s' (still a s h.0 is h.1.0) h.2 g.2

-- and one that was broken off is the run that is cut
pub served_cut : {A : Type 0} (a : Account) (t : Asking A) (s : UnitService) (x : List Exchange) (s' : UnitService) → s.account.now ≡ a
    → AnswersAll UnitAnswers s x s' → IsTracePrefix t x → run_cut (serve a) (length x) t (reach_of s) ≡ reach_of s'
served_cut a t s [] s' is h g = ap reach_of (sym h)
served_cut a (Returns v) s (e ∷ x) s' is h g = absurd g
served_cut {A} a (Asks q f) s (e ∷ x) s' is h g =
    ap (λ (p : Answer × Reach). run_cut (serve a) (length x) (f p.0) p.1) (one_served a s e q h.0 is g.0 h.1)
    ∙ served_cut a (f e.reply) h.0 x s' (still a s h.0 is h.1.0) h.2 g.2

-- the moments of a program that it answered are those that pass
pub served_passed : {A : Type 0} (a : Account) (t : Counted A) (s : UnitService) (x : List Passed) (s' : UnitService) → s.account.now ≡ a
    → AnswersAll UnitAnswers s (requests_in x) s' → counting.IsTracePrefix t x → passed (serve a) (length x) t (reach_of s) ≡ x
served_passed a t s [] s' is h g = refl
served_passed a (Returns v) s (m ∷ x) s' is h g = absurd g
served_passed a (Asks Beginning f) s (m ∷ x) s' is h g =
    let rest : AnswersAll UnitAnswers s (requests_in x) s' = subst (λ (z : Moment). AnswersAll UnitAnswers s (with_request z m.reply (requests_in x)) s') g.0 h in
    let one : passing Beginning Done ≡ m = ap (λ (z : Moment). passing z Done) (sym g.0) ∙ ap (λ (r : Answer). passing m.asked r) (sym g.1) in
    let more : passed (serve a) (length x) (f Done) (reach_of s) ≡ x =
    ap (λ (r : Answer). passed (serve a) (length x) (f r) (reach_of s)) (sym g.1) ∙ served_passed a (f m.reply) s x s' is rest g.2 in
    ap (λ (l : List Passed). passing Beginning Done ∷ l) more ∙ ap (λ (z : Passed). z ∷ x) one
served_passed a (Asks (Requesting q) f) s (m ∷ x) s' is h g =
    let rest : AnswersAll UnitAnswers s (with_request (Requesting q) m.reply (requests_in x)) s' =
    subst (λ (z : Moment). AnswersAll UnitAnswers s (with_request z m.reply (requests_in x)) s') g.0 h in
    let e : Exchange = record { asked = q; reply = m.reply } in
    ap (λ (p : Answer × Reach). passing (Requesting q) p.0 ∷ passed (serve a) (length x) (f p.0) p.1) (one_served a s e q rest.0 is refl rest.1)
    ∙ ap (λ (l : List Passed). passing (Requesting q) m.reply ∷ l) (served_passed a (f m.reply) rest.0 x s' (still a s rest.0 is rest.1.0) rest.2 g.2)
    ∙ ap (λ (z : Moment). passing z m.reply ∷ x) (sym g.0)
