-- What a crash leaves at each call of an append.
use Rattle.std.proofs.Common.{◌≡◌, inl, inr, ⊎_elim, ℕ, ◌+◌, ◌^◌, ◌<◌, ◌≤◌, List, [], ◌∷◌, ◌++◌, length, Option, Some, IfSome, sym, ◌∙◌, ap, subst, arith, length-append}
use Rattle.std.specs.Prelude.{IsSome}
use Rattle.gs_disk.specs.Folder.{Folder, DiskState, KeepsOthers, Torn, TornFile, Tears, MayWrite, overwritten}
use Rattle.gs_disk.specs.Moments.{Leaves, Passes, LeavesOnly, EachNow, Always}
use Rattle.gs_disk.specs.Going.{always_started, always_goes_on}
use Rattle.gs_log.specs.Names.{log_name, mark_name, mark_is_not_log}
use Rattle.gs_log.specs.Grammar.{IsLog, records}
use Rattle.gs_log.specs.Fits.{Fits}
use Rattle.gs_log.specs.Holding.{Holds, IsBeforeOrAfter}
use Rattle.gs_log.proofs.Blocks.{Shut, Staged, long_shut, torn_behind, staged, long_staged, torn_gate, opened}
use Rattle.gs_log.proofs.Records.{body, length-body, spelled, shut, records-pushed, small-push, length-records-le, length-push}

torn_file : (at k : ℕ) (old new : Option (List ℕ)) (bytes : List ℕ) → old ≡ Some bytes → TornFile at k old new → (torn : List ℕ) × (new ≡ Some torn) × Torn at k bytes torn
torn_file at k old new bytes is torn = subst (λ (o : Option (List ℕ)). TornFile at k o new) is torn

written_file : (at : ℕ) (bytes was : List ℕ) (old new : Option (List ℕ)) → old ≡ Some was → IfSome old (λ o. new ≡ Some (overwritten at bytes o)) → new ≡ Some (overwritten at bytes was)
written_file at bytes was old new is wrote = subst (λ (o : Option (List ℕ)). IfSome o (λ v. new ≡ Some (overwritten at bytes v))) is wrote

may_write : (at k : ℕ) (file : Option (List ℕ)) (bytes : List ℕ) → file ≡ Some bytes → at ≤ length bytes → at + k ≤ 2 ^ 40 → MayWrite at k file
may_write at k file bytes is le fits = subst (MayWrite at k) (sym is) (le, fits)

kept_mark : (f g : Folder) → KeepsOthers (log_name ∷ []) f g → IsSome (f mark_name) → IsSome (g mark_name)
kept_mark f g kept marked = subst (λ (o : Option (List ℕ)). IsSome o) (sym (kept.each mark_name (mark_is_not_log, tt))) marked

module _ (list : List (List ℕ)) (payload : List ℕ) (end : ℕ) (fits : Fits list end) (small : length payload ≤ 33554432) (room : length list < 32767) where
  shut_log : (bytes : List ℕ) → IsLog list bytes → Shut (records list) bytes
  shut_log bytes log = (shut list bytes log.spelled).1

  log_shut : (bytes : List ℕ) → Shut (records list) bytes → IsLog list bytes
  log_shut bytes s = record { few = fits.few; spelled = spelled list bytes fits.small s }

  log_more : (bytes : List ℕ) → Shut (records list ++ 1 ∷ body payload) bytes → IsLog (list ++ payload ∷ []) bytes
  log_more bytes s = record {
    few = omega (arith, length-push list payload);
    spelled = spelled (list ++ payload ∷ []) bytes (small-push list payload fits.small small) (subst (λ (front : List ℕ). Shut front bytes) (sym (records-pushed list payload)) s);
  }

  -- where the writes end
  pub end_fits : end + 1 + (5 + length payload) ≤ 2 ^ 40
  end_fits = omega (arith, fits.place, length-records-le list fits.small)

  -- the mark, and a record behind the closed gate
  pub record Stands (folder : Folder) : Type 0 where
    pub marked : IsSome (folder mark_name)
    pub bytes : List ℕ
    pub file : folder log_name ≡ Some bytes
    pub staged : Staged (records list) (body payload) bytes

  pub may_behind : (closed : List ℕ) → closed ≡ body payload ++ 0 ∷ [] → (f : Folder) → Holds list f → MayWrite (end + 1) (length closed) (f log_name)
  may_behind closed is f h = may_write (end + 1) (length closed) (f log_name) h.bytes h.file (long_shut (records list) end fits.place h.bytes (shut_log h.bytes h.log)) (omega (arith, end_fits, ap length is, length-append (body payload) (0 ∷ []), length-body payload))

  pub may_open : (f : Folder) → Stands f → MayWrite end 1 (f log_name)
  may_open f s = may_write end 1 (f log_name) s.bytes s.file (omega (arith, long_staged (records list) end fits.place (body payload) s.bytes s.staged)) (omega (arith, end_fits))

  module _ (s0 : DiskState) (stands : EachNow (Holds list) s0) where
    abbrev pub Fine : Folder → Type 0
    Fine = IsBeforeOrAfter list payload s0.folder

    pub wrote : (k : ℕ) (s1 : DiskState) → Passes (Tears log_name (end + 1) k) s0 s1 → Always Fine s0 s1
    wrote k s1 p = always_goes_on Fine (Tears log_name (end + 1) k) s0 s0 s1 (always_started Fine s0 (λ image left. inl (stands image left))) p
        (λ f g left fine t.
        let h = stands f left in
        let torn = torn_file (end + 1) k (f log_name) (g log_name) h.bytes h.file t.file in
        inl (record { marked = kept_mark f g t.others h.marked; bytes = torn.0; file = torn.1; log = log_shut torn.0 (torn_behind (records list) end fits.place k h.bytes torn.0 (shut_log h.bytes h.log) torn.2) }))

    pub gate : (a b : DiskState) → Always Fine s0 a → LeavesOnly a.folder a → Stands a.folder → KeepsOthers (log_name ∷ []) s0.folder a.folder → Passes (Tears log_name end 1) a b → Always Fine s0 b
    gate a b so_far only s others p = always_goes_on Fine (Tears log_name end 1) s0 a b so_far p fine_after
      where
        fine_after : (f g : Folder) → Leaves a f → Fine f → Tears log_name end 1 f g → Fine g
        fine_after f g left fine t =
            let is = only f left in
            let file : f log_name ≡ Some s.bytes = ap (λ (h : Folder). h log_name) is ∙ s.file in
            let torn = torn_file end 1 (f log_name) (g log_name) s.bytes file t.file in
            let marked : IsSome (g mark_name) = kept_mark f g t.others (subst (λ (h : Folder). IsSome (h mark_name)) (sym is) s.marked) in
            let kept : KeepsOthers (log_name ∷ []) s0.folder g = record { each = λ x out. t.others.each x out ∙ ap (λ (h : Folder). h x) is ∙ others.each x out } in
            ⊎_elim
            (λ same. inl (record { marked = marked; bytes = torn.0; file = torn.1; log = log_shut torn.0 same }))
            (λ more. inr (record { marked = marked; bytes = torn.0; file = torn.1; log = log_more torn.0 more }, kept))
            (torn_gate (records list) end fits.place (body payload) s.bytes torn.0 s.staged torn.2)

  pub stands_staged : (closed : List ℕ) → closed ≡ body payload ++ 0 ∷ [] → (f g h : Folder) → Holds list f → IfSome (f log_name) (λ old. g log_name ≡ Some (overwritten (end + 1) closed old)) → KeepsOthers (log_name ∷ []) f g → h ≡ g → Stands h
  stands_staged closed is f g h log wrote kept same = record {
    marked = subst (λ (k : Folder). IsSome (k mark_name)) (sym same) (kept_mark f g kept log.marked);
    bytes = overwritten (end + 1) (body payload ++ 0 ∷ []) log.bytes;
    file = ap (λ (k : Folder). k log_name) same ∙ written_file (end + 1) closed log.bytes (f log_name) (g log_name) log.file wrote ∙ ap (λ (l : List ℕ). Some (overwritten (end + 1) l log.bytes)) is;
    staged = staged (records list) end fits.place (body payload) log.bytes (shut_log log.bytes log.log);
  }

  pub held : (f g h : Folder) → Stands f → IfSome (f log_name) (λ old. g log_name ≡ Some (overwritten end (1 ∷ []) old)) → KeepsOthers (log_name ∷ []) f g → h ≡ g → Holds (list ++ payload ∷ []) h
  held f g h s wrote kept same = record {
    marked = subst (λ (k : Folder). IsSome (k mark_name)) (sym same) (kept_mark f g kept s.marked);
    bytes = overwritten end (1 ∷ []) s.bytes;
    file = ap (λ (k : Folder). k log_name) same ∙ written_file end (1 ∷ []) s.bytes (f log_name) (g log_name) s.file wrote;
    log = log_more (overwritten end (1 ∷ []) s.bytes) (opened (records list) end fits.place (body payload) s.bytes s.staged);
  }

pub keeps_all : (names : List (List ℕ)) (f g h : Folder) → KeepsOthers names f g → h ≡ g → KeepsOthers names f h
keeps_all names f g h kept same = subst (KeepsOthers names f) (sym same) kept
