-- It hands the block back to the inner allocator. Assumes `Logic`.
use Rattle.std.proofs.Common.{◌≡◌, List, [], ◌∷◌, refl, w64}
use base.Fml.{ftrue, fsep, flft}
use base.Logic.{fst∗, never}
use contract.BorrowLft.{◌⊑◌, ⊑_trans}
use contract.Monad.{fact}
use contract.Running.{tables}
use mir.MapTy.{inst_fn}
use mir.Syntax.{Fn}
use mir.Val.{Val, vunit, vint, vptr}
use prog.Memory.{size, align, capped}
use prog.Wp.{WpFn}
use types.ByLocal.{alloc_all, pass_all, free_all, look_at, get, through, sets, lands_as}
use types.Kit.{‵, raw, ◌⊛◌, later, given, prop, ◌$◌, ◌∵◌, !, qed, by, move, keep, use1, split, split3, fsplit, fjoin, feq_i, group, regoal, learn, await}
use types.Logic.{sem}
use types.Run.{enter, of_opd, unit_lit, addr, stop, fld, no_more, and_then, returns}
use denote.Builtin.{RawPtr}
use denote.Exit.{yes}
use denote.Plain.{uint_vals, uint_Tells}
use denote.RattleType.{owns}
use denote.RawPtr.{Ptr, block_ptr, null_ptr, ptr_val, room_for, rawptr_vals, rawptr_Tells, in_a_block}
use denote.Ref.{shr_vals}
use denote.Signature.{Slot, plain, types_at}
use denote.Steps.{heard, nothing}
use denote.Triple.Call.{calls_at}
use denote.Triple.Clauses.{Ended}
use denote.Triple.Table.{framed}
use denote.Triple.Walked.{Stays, walk_of, stay_dropped, Goes-dropped}
use Rattle.std.proofs.alloc.Calls.{Al, seen, token, Gives, at_gives, Gives-goes, Gives-Gives}
use Rattle.std.proofs.raw_atomic.Walks.{leaves, proved}
use Rattle.pddl_fakes.proofs.Lent.{args, self, number, inner_at, growths_at, seen_growths, parts}
use Rattle.pddl_fakes.specs.contracts.refusing.RefusingAllocator.deallocate as f
use Rattle.pddl_fakes.specs.contracts.refusing.RefusingAllocator.deallocate.Key as key
use Rattle.pddl_fakes.proofs.refusing.RefusingAllocator.deallocate.Statement.{statement}
use Rattle.pddl_fakes.proofs.refusing.RefusingAllocator.deallocate.Code as code

module _ (Z : Al) where
  abbrev here : Fn
  here = inst_fn (args Z) code.function

  abbrev ended : Ended
  ended = f.ended Z.row Z.g Z.d Z.drops

  abbrev pointer : Slot 2
  pointer = plain (λ _. RawPtr)

  abbrev stayed : Stays ended.signature.params ended.kept
  stayed = (stay_dropped (self Z) yes, (stay_dropped pointer yes, (stay_dropped number yes, (stay_dropped number yes, tt))))

pub deallocate_spec : {M : Type 1} → statement M
deallocate_spec 𝓤 𝓛 𝓜 𝓡 wired B laws g d drops met _ =
    let Z : Al = record { row = B; laws = laws; g = g; d = d; drops = drops } in
    let c = f.clauses B g d drops 𝓛 𝓜.mem 𝓡.returns in let 𝓣 = tables 𝓤 𝓛.H 𝓜 𝓡 𝓡.env in
    let W = walk_of 𝓛 (ended Z) (stayed Z) c in
    let goes = Goes-dropped 𝓛 2 number yes (λ κs x w. refl) in
    proved 𝓛 (ended Z) (stayed Z) c 𝓜 𝓡
    (Goes-dropped 𝓛 2 (self Z) yes (λ κs x w. refl), (Goes-dropped 𝓛 2 (pointer Z) yes (λ κs x w. refl), (goes, (goes, tt))))
    (key.name (args Z)) (here Z) (code.unfolded 𝓤 𝓛.H 𝓜 𝓡 wired (B, tt) d drops)
    (λ κs. (shr_vals, (rawptr_vals, (uint_vals w64, (uint_vals w64, tt))))) (λ κs. ((λ r vs s. s.0), (rawptr_Tells, (uint_Tells w64, (uint_Tells w64, tt)))))
    (λ κs qs bounds a τ are.
    let κ = κs.0 in let q = qs.0 in let r = a.0 in let n = a.1.1.0 in let al = a.1.1.1.0 in let h = r.now.inner in
    let p = inner_at Z r.ref_ptr in
    let y : Ptr → W.Ghost = λ x. ((κs, qs, bounds, (r, (x, (n, (al, tt)))), (shr_vals r, (rawptr_vals x, (uint_vals w64 n, (uint_vals w64 al, tt))))), τ) in
    let Give = Gives Z 𝓛 𝓜.mem 𝓡.returns in
    let vs : Ptr → List Val = λ x. vptr r.ref_ptr.0 r.ref_ptr.1 ∷ ptr_val x ∷ vint w64 n ∷ vint w64 al ∷ [] in
    qed 𝓛 (((‵ (flft κ q) ⊛ ‵ (flft κs.1.0 qs.1.0) ⊛ ‵ ftrue) ⊛ ‵ (owns (types_at (ended Z).signature.params κs) a (y a.1.0).0.4))
    ∷ (raw (fact 𝓤 (κs.1.0 ⊑ B.lives)) ⊛ raw (fact 𝓤 ((capped (size τ) ≡ n) × (capped (align τ) ≡ al))) ⊛ ‵ (fsep (room_for τ a.1.0) (token Z h τ a.1.0))) ∷ []) ∵
    move ! (1 ∷ []) $ split3 ! $ heard ! _ (λ lives. heard ! _ (λ asked.
    in_a_block ! a.1.0 (λ x. fsep (room_for τ x) (token Z h τ x)) (fst∗ 𝓤 (never 𝓤) (sem 𝓛 (token Z h τ null_ptr))) (λ b o is.
    regoal ! (λ x. prop (WpFn 𝓤 𝓛.H 𝓣.C 𝓣.Λ (here Z) (vs x) (W.post (y x)))) is refl $
    let z = at_gives Z 𝓛 𝓜.mem 𝓡.returns κ q p h b o n al τ in
    fsplit ! $ move ! (2 ∷ []) $ split ! $ split3 ! $ move ! (3 ∷ []) $ fsplit ! $ fsplit ! $ keep ! (1 ∷ 3 ∷ 4 ∷ 6 ∷ 7 ∷ []) $
    use1 𝓛 (‵ (seen Z κ p h) ⊛ ‵ (seen_growths κ (growths_at Z r.ref_ptr) r.now.growths)) (parts Z 𝓛 κ r.ref_ptr r.now) $ split ! $ keep ! (4 ∷ 5 ∷ 0 ∷ 2 ∷ 3 ∷ []) $
    -- [the room; the right to free it; the inner allocator; the token of κ; the other token]
    enter ! _ _ _ _ _ $ alloc_all ! (λ l. pass_all ! refl ((tt, tt), ((tt, tt), ((tt, record { fits = are.1.1.0.1 }), ((tt, record { fits = are.1.1.1.0.1 }), tt)))) $
    sets ! (addr ! (through ! refl (fld ! refl (stop !)))) refl (tt, tt) $ group ! 4 $
    use1 𝓛 (raw (Give.pre z)) (Gives-goes Z 𝓛 𝓜.mem 𝓡.returns κ q p h (⊑_trans κ κs.1.0 B.lives bounds.0 lives) b o n al τ asked.0 asked.1 are.1.1.0.1 are.1.1.1.0.1) $
    calls_at ! (framed 𝓤 𝓛.H 𝓜 𝓣) Give (met.deallocate drops) z (and_then ! (get ! refl) (and_then ! (get ! refl) (and_then ! (get ! refl) (and_then ! (get ! refl) (no_more !))))) (λ w.
    use1 𝓛 (later (given (w ≡ vunit) (‵ (flft κ q)))) (Gives-Gives Z 𝓛 𝓜.mem 𝓡.returns κ q p h b o n al τ w) $ await ! tt $
    learn ! (λ gave. lands_as ! gave refl (tt, tt) $ sets ! (of_opd ! (unit_lit !)) refl (tt, tt) $ returns ! (look_at ! 0 refl) $ free_all ! refl $
    -- what is left: of the parameters nothing, the answer, and the tokens
    nothing ! $ feq_i ! _ (vunit ∷ []) _ refl $ nothing ! $ nothing ! $ fjoin ! $ nothing ! $ fjoin ! $ nothing ! $ fjoin ! $ nothing ! $ fjoin ! $
    nothing ! $ move ! (4 ∷ 5 ∷ 0 ∷ []) $ group ! 3 $
    by ! (leaves 𝓛 (ended Z) (stayed Z) c (y (block_ptr b o)) vunit tt (tt, (tt, (tt, (tt, tt)))) (tt, (tt, (tt, (tt, tt))))))))))))
