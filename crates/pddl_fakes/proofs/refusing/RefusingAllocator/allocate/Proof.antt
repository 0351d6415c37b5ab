-- It counts the growth, and refuses it or answers what the inner allocator answers. Assumes `Logic`.
use Rattle.std.proofs.Common.{◌≡◌, Bool, true, false, Ok, Err, [], ◌∷◌, refl, w64}
use base.Fml.{ftrue, flft}
use base.Logic.{ent, emp}
use contract.BorrowLft.{◌⊑◌, ⊑_trans}
use contract.Monad.{fact}
use contract.Running.{tables}
use mir.MapTy.{inst_fn}
use mir.Syntax.{Fn}
use mir.Val.{Val, vbool}
use prog.Memory.{size, align, capped}
use types.ByLocal.{alloc_all, pass_all, free_all, look_at, get, through, sets, lands_as, env}
use types.Kit.{‵, raw, ◌⊛◌, some, later, given, prop, at_ret, Sq, ◌$◌, ◌∵◌, !, qed, by, move, keep, use0, use1, use2, split, split3, fsplit, fjoin, group, pick, learn, await}
use types.Logic.{sem}
use types.Part.{agg}
use types.Run.{enter, lit, addr, stop, fld, no_more, and_then, first, branches, skips, exec, returns, returns_within}
use denote.Exit.{yes}
use denote.Plain.{uint_vals, uint_Tells}
use denote.RattleType.{owns}
use denote.RawPtr.{block_ptr}
use denote.Ref.{shr_vals}
use denote.Signature.{types_at}
use denote.Steps.{heard, nothing}
use denote.Triple.Call.{calls_at}
use denote.Triple.Clauses.{Ended}
use denote.Triple.Table.{framed}
use denote.Triple.Walked.{Stays, walk_of, stay_dropped, Goes-dropped}
use Rattle.std.specs.Allocator.{block_if_ok}
use Rattle.std.proofs.VecSteps.Shapes.{after}
use Rattle.std.proofs.alloc.Calls.{Al, seen, token, Answer, answer_val, Answer-typed, Answer-Ok, Answer-err, Takes, at_takes, Answered, Takes-goes, Takes-gives, answers}
use Rattle.std.proofs.raw_atomic.Walks.{leaves, proved}
use Rattle.pddl_fakes.proofs.Lent.{args, self, number, inner_at, growths_at, seen_growths, parts, Counts, at_counts, counts_goes, counts_gives}
use Rattle.pddl_fakes.proofs.growths.Growths.refuses_next.Met.{met as counts}
use Rattle.pddl_fakes.specs.contracts.refusing.RefusingAllocator.allocate as f
use Rattle.pddl_fakes.specs.contracts.refusing.RefusingAllocator.allocate.Key as key
use Rattle.pddl_fakes.proofs.refusing.RefusingAllocator.allocate.Statement.{statement}
use Rattle.pddl_fakes.proofs.refusing.RefusingAllocator.allocate.Code as code

module _ (Z : Al) where
  abbrev here : Fn
  here = inst_fn (args Z) code.function

  abbrev ended : Ended
  ended = f.ended Z.row Z.g Z.d Z.drops

  abbrev stayed : Stays ended.signature.params ended.kept
  stayed = (stay_dropped (self Z) yes, (stay_dropped number yes, (stay_dropped number yes, tt)))

pub allocate_spec : {M : Type 1} → statement M
allocate_spec 𝓤 𝓛 𝓜 𝓡 wired B laws g d drops met _ =
    let Z : Al = record { row = B; laws = laws; g = g; d = d; drops = drops } in
    let c = f.clauses B g d drops 𝓛 𝓜.mem 𝓡.returns in let 𝓣 = tables 𝓤 𝓛.H 𝓜 𝓡 𝓡.env in
    let W = walk_of 𝓛 (ended Z) (stayed Z) c in
    let goes = Goes-dropped 𝓛 2 number yes (λ κs x w. refl) in
    proved 𝓛 (ended Z) (stayed Z) c 𝓜 𝓡
    (Goes-dropped 𝓛 2 (self Z) yes (λ κs x w. refl), (goes, (goes, tt)))
    (key.name (args Z)) (here Z) (code.unfolded 𝓤 𝓛.H 𝓜 𝓡 wired (B, tt) d drops)
    (λ κs. (shr_vals, (uint_vals w64, (uint_vals w64, tt)))) (λ κs. ((λ r vs s. s.0), (uint_Tells w64, (uint_Tells w64, tt))))
    (λ κs qs bounds a τ are.
    let κ = κs.0 in let q = qs.0 in let r = a.0 in let n = a.1.0 in let al = a.1.1.0 in let h = r.now.inner in
    let p = inner_at Z r.ref_ptr in let at = growths_at Z r.ref_ptr in
    let y : W.Ghost = ((κs, qs, bounds, a, (shr_vals r, (uint_vals w64 n, (uint_vals w64 al, tt)))), τ) in
    let Count = Counts 𝓛 𝓜.mem 𝓡.returns in let x = at_counts 𝓛 𝓜.mem 𝓡.returns κ q at r.now.growths in
    let Take = Takes Z 𝓛 𝓜.mem 𝓡.returns in let z = at_takes Z 𝓛 𝓜.mem 𝓡.returns κ q p h n al τ in
    -- [what the answer owns besides itself; the tokens]
    let out : (v : Val) (u : Answer.Denot) → ent 𝓤 (emp 𝓤) (sem 𝓛 (Answer.own_val u (v ∷ [])))
    → Sq 𝓛 (‵ (block_if_ok (token Z h) τ u) ∷ ‵ (flft κ q) ∷ ‵ (flft κs.1.0 qs.1.0) ∷ []) (prop (W.post y v)) = λ v u made.
    use0 𝓛 (‵ (Answer.own_val u (v ∷ []))) made $ nothing ! $ nothing ! $ fjoin ! $ nothing ! $ fjoin ! $ nothing ! $ fjoin ! $
    nothing ! $ move ! (4 ∷ 5 ∷ 0 ∷ []) $ group ! 3 $ by ! (leaves 𝓛 (ended Z) (stayed Z) c y v u (tt, (tt, (tt, tt))) (tt, (tt, (tt, tt)))) in
    qed 𝓛 (((‵ (flft κ q) ⊛ ‵ (flft κs.1.0 qs.1.0) ⊛ ‵ ftrue) ⊛ ‵ (owns (types_at (ended Z).signature.params κs) a y.0.4))
    ∷ (raw (fact 𝓤 (κs.1.0 ⊑ B.lives)) ⊛ raw (fact 𝓤 ((capped (size τ) ≡ n) × (capped (align τ) ≡ al)))) ∷ []) ∵
    move ! (1 ∷ []) $ split ! $ heard ! _ (λ lives. heard ! _ (λ asked.
    split ! $ split3 ! $ move ! (3 ∷ []) $ fsplit ! $ fsplit ! $ keep ! (1 ∷ 3 ∷ 4 ∷ []) $
    use1 𝓛 (‵ (seen Z κ p h) ⊛ ‵ (seen_growths κ at r.now.growths)) (parts Z 𝓛 κ r.ref_ptr r.now) $ split ! $ move ! (1 ∷ 2 ∷ []) $
    -- [the growths; the token of κ; the inner allocator; the other token]
    enter ! _ _ _ _ _ $ alloc_all ! (λ l. pass_all ! refl ((tt, tt), ((tt, record { fits = are.1.0.1 }), ((tt, record { fits = are.1.1.0.1 }), tt))) $
    sets ! (addr ! (through ! refl (fld ! refl (stop !)))) refl (tt, tt) $
    use2 𝓛 (raw (Count.pre x)) (counts_goes 𝓛 𝓜.mem 𝓡.returns κ q at r.now.growths) $
    calls_at ! (framed 𝓤 𝓛.H 𝓜 𝓣) Count (counts 𝓤 𝓛 𝓜 𝓡 (code.calls-pddl_fakes::growths::Growths::refuses_next 𝓡.env wired)) x (and_then ! (get ! refl) (no_more !)) (λ v.
    use1 𝓛 (later (some (λ (b : Bool). given (v ≡ vbool b) (‵ (flft κ q))))) (counts_gives 𝓛 𝓜.mem 𝓡.returns κ q at r.now.growths v) $ await ! tt $
    pick ! (λ b. learn ! (λ is. lands_as ! is refl (tt, tt) $
    -- [the token of κ; the inner allocator; the other token]
    first ! $ branches ! (get ! refl)
    (λ refused. sets ! (agg ! (no_more !)) refl (tt, tt) $
    sets ! (agg ! (and_then ! (lit ! tt) (and_then ! (get ! refl) (no_more !)))) refl (Answer-typed false 0 0) $
    returns_within ! (W.post y) refl (look_at ! 0 refl) $ free_all ! refl $ keep ! (0 ∷ 2 ∷ []) $ nothing ! $
    out (answer_val false 0 0) (Err (record {})) (Answer-err 𝓛))
    (λ passed. skips ! $ exec ! 𝓣.C 𝓣.Λ (env (here Z).locals l) (after 3 (here Z).body) (at_ret _ (W.post y)) $
    sets ! (addr ! (through ! refl (fld ! refl (stop !)))) refl (tt, tt) $ move ! (1 ∷ 0 ∷ []) $
    use2 𝓛 (raw (Take.pre z)) (Takes-goes Z 𝓛 𝓜.mem 𝓡.returns κ q p h (⊑_trans κ κs.1.0 B.lives bounds.0 lives) n al τ asked.0 asked.1 are.1.0.1 are.1.1.0.1) $
    calls_at ! (framed 𝓤 𝓛.H 𝓜 𝓣) Take (met.allocate drops) z (and_then ! (get ! refl) (and_then ! (get ! refl) (and_then ! (get ! refl) (no_more !)))) (λ w.
    use1 𝓛 (later (raw (Answered Z 𝓛 𝓜.mem 𝓡.returns h τ w) ⊛ ‵ (flft κ q))) (Takes-gives Z 𝓛 𝓜.mem 𝓡.returns κ q p h n al τ w) $ await ! tt $ split ! $
    answers Z ! 𝓜.mem 𝓡.returns h τ w
    (λ b' o gave. fjoin ! $ lands_as ! gave refl (Answer-typed true b' o) $ returns ! (look_at ! 0 refl) $ free_all ! refl $
    out (answer_val true b' o) (Ok (block_ptr b' o)) (Answer-Ok 𝓛 b' o))
    (λ gave. nothing ! $ lands_as ! gave refl (Answer-typed false 0 0) $ returns ! (look_at ! 0 refl) $ free_all ! refl $
    out (answer_val false 0 0) (Err (record {})) (Answer-err 𝓛)))))))))))
