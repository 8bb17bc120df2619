-- What holds of each entry of a history behind those before it.
use Rattle.std.proofs.Common.{List, [], ◌∷◌, ◌++◌, sym, subst, append_assoc}
use Rattle.once_core.proofs.Names.{append-nil, by_last, EachBehind, HistoryEntry}

module _ (P : List HistoryEntry → HistoryEntry → Type 0) where
  pub each_parts : (before h : List HistoryEntry) (e : HistoryEntry) → EachBehind P before (h ++ e ∷ []) → EachBehind P before h × P (before ++ h) e
  each_parts before [] e all = (tt, subst (λ (b : List HistoryEntry). P b e) (sym (append-nil before)) all.0)
  each_parts before (x ∷ h) e all =
      let parts = each_parts (before ++ x ∷ []) h e all.1 in
      ((all.0, parts.0), subst (λ (b : List HistoryEntry). P b e) (append_assoc before (x ∷ []) h) parts.1)

  pub each_more : (before h : List HistoryEntry) (e : HistoryEntry) → EachBehind P before h → P (before ++ h) e → EachBehind P before (h ++ e ∷ [])
  each_more before [] e all one = (subst (λ (b : List HistoryEntry). P b e) (append-nil before) one, tt)
  each_more before (x ∷ h) e all one =
      (all.0, each_more (before ++ x ∷ []) h e all.1 (subst (λ (b : List HistoryEntry). P b e) (sym (append_assoc before (x ∷ []) h)) one))

  pub each_front : (before h g : List HistoryEntry) → EachBehind P before (h ++ g) → EachBehind P before h
  each_front before [] g all = tt
  each_front before (x ∷ h) g all = (all.0, each_front (before ++ x ∷ []) h g all.1)

  -- what goes on with each such entry holds of each such history
  pub by_each : (Q : List HistoryEntry → Type 0) → Q [] → ((h : List HistoryEntry) (e : HistoryEntry) → EachBehind P [] h → P h e → Q h → Q (h ++ e ∷ []))
      → (h : List HistoryEntry) → EachBehind P [] h → Q h
  by_each Q none more =
      by_last (λ (h : List HistoryEntry). EachBehind P [] h → Q h) (λ all. none)
      (λ h e rest all. let parts = each_parts [] h e all in more h e parts.0 parts.1 (rest parts.0))

  -- the same of what follows a history of which it holds
  pub by_each_from : (Q : List HistoryEntry → Type 0) → ((h : List HistoryEntry) (e : HistoryEntry) → EachBehind P [] h → P h e → Q h → Q (h ++ e ∷ []))
      → (h g : List HistoryEntry) → EachBehind P [] (h ++ g) → Q h → Q (h ++ g)
  by_each_from Q more h =
      by_last (λ (g : List HistoryEntry). EachBehind P [] (h ++ g) → Q h → Q (h ++ g))
      (λ all q. subst Q (sym (append-nil h)) q)
      (λ g e rest all q.
      let parts = each_parts [] (h ++ g) e (subst (EachBehind P []) (sym (append_assoc h g (e ∷ []))) all) in
      subst Q (append_assoc h g (e ∷ [])) (more (h ++ g) e parts.0 parts.1 (rest parts.0 q)))

pub each_also : (P Q : List HistoryEntry → HistoryEntry → Type 0) → ((h : List HistoryEntry) (e : HistoryEntry) → P h e → Q h e)
    → (before h : List HistoryEntry) → EachBehind P before h → EachBehind Q before h
each_also P Q also before [] all = tt
each_also P Q also before (e ∷ h) all = (also before e all.0, each_also P Q also (before ++ e ∷ []) h all.1)
