-- The streams of a bundle as files, one after another.
use Rattle.std.proofs.Common.{◌≡◌, ℕ, suc, zero, ◌+◌, ◌<◌, ◌≤◌, List, [], ◌∷◌, ◌++◌, length, length-append, map, take, string_bytes, refl, sym, ap, ◌∙◌, arith}
use Rattle.std.specs.Global.{Global}
use Rattle.std.specs.List.{slice_index_or}
use Rattle.std.specs.Prelude.{String, Vec}
use Rattle.std.proofs.lemmas.List.{get_or-map, length-map, map-append, take_all}
use Rattle.judge_bundle_pages.specs.BundlePages.{files_of, stream_name, stream_names}
use Rattle.judge_bundle_pages.specs.Parts.{bytes_of}
use Rattle.judge_explore.specs.FileViews.{file_view, files_view}
use Rattle.judge_explore.specs.Sources.{stream_bytes, stream_file}
use Rattle.judge_explore.specs.declared.stream_file.StreamFile.{StreamFile}

-- one more name
pub names_more : (bundle : List ℕ) (names : List (String Global)) (name : String Global) (n : ℕ)
    → map string_bytes names ≡ stream_names bundle n → string_bytes name ≡ stream_name bundle (n + 1)
    → map string_bytes (names ++ name ∷ []) ≡ stream_names bundle (n + 1)
names_more bundle names name n so_far is =
    let next : n + 1 ≡ suc n = omega arith in
    map-append string_bytes names (name ∷ [])
    ∙ (ap (λ (some : List (List ℕ)). some ++ string_bytes name ∷ []) so_far
    ∙ (ap (λ (last : List ℕ). stream_names bundle n ++ last ∷ []) (is ∙ ap (stream_name bundle) next)
    ∙ sym (ap (stream_names bundle) next)))

-- there are as many names as are asked for
pub names_counted : (bundle : List ℕ) (n : ℕ) → length (stream_names bundle n) ≡ n
names_counted bundle zero = refl
names_counted bundle (suc n) =
    omega (arith, names_counted bundle n, length-append (stream_names bundle n) (stream_name bundle (suc n) ∷ []))

-- the files of one more name and stream
files_suc : (names streams : List (List ℕ)) (i : ℕ) (d e : List ℕ) → i < length names → i < length streams
    → files_of (take (suc i) names) (take (suc i) streams)
    ≡ files_of (take i names) (take i streams)
    ++ stream_file (slice_index_or names i d) (stream_bytes (slice_index_or streams i e)) ∷ []
files_suc [] streams i d e lt less = absurd (omega (arith, lt))
files_suc (name ∷ names) [] i d e lt less = absurd (omega (arith, less))
files_suc (name ∷ names) (stream ∷ streams) zero d e lt less = refl
files_suc (name ∷ names) (stream ∷ streams) (suc i) d e lt less =
    ap (λ files. stream_file name (stream_bytes stream) ∷ files)
    (files_suc names streams i d e (omega (arith, lt)) (omega (arith, less)))

module _ (names : List (String Global)) (streams : List (Vec ℕ Global)) where
  -- one more file
  pub files_more : (i : ℕ) (files : List StreamFile) (file : StreamFile) (named : String Global) (stream : Vec ℕ Global)
      → i < length names → i < length streams
      → files_view files ≡ files_of (take i (map string_bytes names)) (take i (bytes_of streams))
      → named ≡ slice_index_or names i named → stream ≡ slice_index_or streams i stream → (name bytes : List ℕ)
      → name ≡ string_bytes named → bytes ≡ stream_bytes stream.items → file_view file ≡ stream_file name bytes
      → files_view (files ++ file ∷ [])
      ≡ files_of (take (i + 1) (map string_bytes names)) (take (i + 1) (bytes_of streams))
  files_more i files file named stream lt less so_far is_named is_stream name bytes same first made =
      let next : i + 1 ≡ suc i = omega arith in
      let all_names = map string_bytes names in
      let all_streams = bytes_of streams in
      let is_name : name ≡ slice_index_or all_names i name =
      same ∙ (ap string_bytes is_named ∙ sym (get_or-map string_bytes names i named name lt)) in
      let is_bytes : stream.items ≡ slice_index_or all_streams i bytes =
      ap (λ (one : Vec ℕ Global). one.items) is_stream
      ∙ sym (get_or-map (λ (one : Vec ℕ Global). one.items) streams i stream bytes less) in
      map-append file_view files (file ∷ [])
      ∙ (ap (λ some. some ++ file_view file ∷ []) so_far
      ∙ (ap (λ last. files_of (take i all_names) (take i all_streams) ++ last ∷ [])
      (made ∙ (ap (λ (n : List ℕ). stream_file n bytes) is_name
      ∙ ap (λ (b : List ℕ). stream_file (slice_index_or all_names i name) b) (first ∙ ap stream_bytes is_bytes)))
      ∙ (sym (files_suc all_names all_streams i name bytes (omega (arith, lt, length-map names string_bytes))
      (omega (arith, less, length-map streams (λ (one : Vec ℕ Global). one.items))))
      ∙ sym (ap (λ k. files_of (take k all_names) (take k all_streams)) next))))

  -- all files
  pub files_all : (i : ℕ) → length names ≤ i → length streams ≤ i
      → files_of (take i (map string_bytes names)) (take i (bytes_of streams))
      ≡ files_of (map string_bytes names) (bytes_of streams)
  files_all i le fewer =
      ap (λ some. files_of some (take i (bytes_of streams)))
      (take_all i (map string_bytes names) (omega (arith, le, length-map names string_bytes)))
      ∙ ap (files_of (map string_bytes names))
      (take_all i (bytes_of streams)
      (omega (arith, fewer, length-map streams (λ (one : Vec ℕ Global). one.items))))
