-- The head is read as it stands, and the words that are written are those of the key that is linked ahead of it.
use Rattle.std.proofs.Common.{◌≡◌, ◌<◌, ◌^◌, ◌+◌, ◌-◌, ℕ, max, false, ap, ◌∙◌, sym, subst, inl, inr, arith}
use Rattle.std.specs.Prelude.{slice_index_or}
use Rattle.vbr_machine.specs.Start.{Start, start_with}
use Rattle.vbr_words.specs.Packing.{packed, slot_bits, unpacked}
use Rattle.vbr_words.specs.Words.{word_of, link_of, slot_field}
use Rattle.vbr_words.specs.Places.{index_of}
use Rattle.vbr_words.specs.declared.link.Link.{Link}
use Rattle.vbr_words.specs.declared.place.Place.TheVariants.{Head, Flags}
use Rattle.vbr_words.proofs.Lemmas.{has_room, is_link, some_version, room_parts, link_of-word_of, shape_has_room}
use Rattle.vbr_words.proofs.Lemmas.{packed-unpacked, slot_bits-enough, unpacked-packed}
use Rattle.vbr_words.specs.Buckets.{bucket_of}
use Rattle.vbr_slots.proofs.runs.Openings.{KeyIndices, key_ahead}
use Rattle.vbr_slots.proofs.laying.link_key.Goals as goal
use Rattle.vbr_slots.proofs.laying.link_key.Goals.{then-has_values, else-has_values}

pub encode-requires-clause-fits : goal.encode-requires-clause-fits
encode-requires-clause-fits c =
    let fits = c.decode-first.ensures.fits in
    let version = fits.version in
    let greater = c.version_of.ensures in
    record { slot = fits.slot; version = omega (arith, greater, version) }

pub encode-requires-clause-room : goal.encode-requires-clause-room
encode-requires-clause-room c =
    let bits : ℕ = c.layout-layout.result in
    let short = c.layout-layout.ensures.few in
    let kept : ℕ = slice_index_or c.args.words.now c.place_index-head.result 0 in
    let low = room_parts bits (unpacked bits kept) short c.decode-first.ensures.room in
    let first : c.decode-first.result ≡ link_of (unpacked bits kept) = c.decode-first.ensures.link in
    let one : 1 < 2 ^ (63 - bits) = some_version bits short in
    let version = subst (λ (link : Link). link.version < 2 ^ (63 - bits)) (sym first) low.1 in
    let greater = c.version_of.ensures in
    has_room bits short _ (subst (λ (link : Link). slot_field link.slot < 2 ^ bits) (sym first) low.0)
    (omega (arith, greater, version, one))

pub encode-requires-2-clause-fits : goal.encode-requires-2-clause-fits
encode-requires-2-clause-fits c =
    let inside = c.requires.number in
    let most = c.layout-layout.ensures.shape.slots in
    record { slot = omega (arith, inside, most); version = omega arith }

pub encode-requires-2-clause-room : goal.encode-requires-2-clause-room
encode-requires-2-clause-room c =
    let bits : ℕ = c.layout-layout.result in
    let is = c.layout-layout.ensures.layout in
    let enough = slot_bits-enough c.args.shape.now.slots c.layout-layout.ensures.shape.slots in
    let low : c.args.number + 1 < 2 ^ bits =
    subst (λ (b : ℕ). c.args.number + 1 < 2 ^ b) (sym is)
    (let inside = c.requires.number in omega (arith, enough, inside)) in
    has_room bits c.layout-layout.ensures.few _ (omega (arith, low)) (some_version bits c.layout-layout.ensures.few)

pub returns : goal.returns
unfolding bucket_of
returns c = λ keys payloads w fit are.
    let start : Start = start_with c.args.shape.now keys payloads in
    let bits : ℕ = slot_bits start.shape.slots in
    let bucket = c.bucket_of.ensures.bucket in
    let in_shape : bucket_of start.shape c.args.key < start.shape.buckets =
    subst (λ b. b < start.shape.buckets) bucket c.bucket_of.ensures.in_shape in
    let head_at : c.place_index-head.result ≡ index_of start.shape (Head (bucket_of start.shape c.args.key)) =
    c.place_index-head.ensures.index ∙ ap (λ b. index_of start.shape (Head b)) bucket in
    let first : Link = w.head (bucket_of start.shape c.args.key) in
    let fits = fit (bucket_of start.shape c.args.key) in
    let kept : slice_index_or c.args.words.now c.place_index-head.result 0 ≡ packed bits (word_of first) =
    ap (λ i. slice_index_or c.args.words.now i 0) head_at
    ∙ are.each (Head (bucket_of start.shape c.args.key)) in_shape in
    let read : c.decode-first.result ≡ first =
    c.decode-first.ensures.link
    ∙ ap link_of
    ((λ i. unpacked (c.layout-layout.ensures.layout i) (kept i))
    ∙ unpacked-packed bits (word_of first) (shape_has_room start.shape c.layout-layout.ensures.shape first fits))
    ∙ link_of-word_of first (is_link c.layout-layout.ensures.shape fits) in
    let keeps : (word kept : ℕ) → unpacked c.layout-layout.result kept ≡ word → kept ≡ packed bits word =
    λ word kept is. sym (packed-unpacked c.layout-layout.result kept c.layout-layout.ensures.few) ∙ ap
    (packed c.layout-layout.result) is
    ∙ ap (λ (b : ℕ). packed b word) c.layout-layout.ensures.layout in
    let indices : KeyIndices start c.args.number (bucket_of start.shape c.args.key) c.place_index.result
    c.place_index-head.result c.place_index-2.result c.place_index-3.result c.place_index-4.result = record {
      link_at = c.place_index.ensures.index;
      head_at = head_at;
      birth_at = c.place_index-2.ensures.index;
      key_at = c.place_index-3.ensures.index;
      flags_at = c.place_index-4.ensures.index ∙ ap (λ n. index_of start.shape (Flags n)) c.word_of_flag.ensures;
    } in
    key_ahead start w c.args.words.now c.if-has_values.words c.args.number c.args.key c.args.value c.encode.result
    c.encode-2.result c.all_but.result _ _ _ _ _ are indices c.requires.number in_shape
    (keeps _ _ (c.encode.ensures
    ∙ (λ j. word_of
    (record {
      slot = (read j).slot;
      mark = false;
      version = (c.version_of.ensures ∙ (λ k. max 1 (read k).version)) j;
    }))))
    (keeps _ _ c.encode-2.ensures)
    c.all_but.ensures
    (elim c.if-has_values.branch [
      | then-has_values b ↦
          inr (
            sym c.has_values.ensures.values ∙ b.if-has_values.true,
            _,
            b.place_index-then-has_values.ensures.index,
            b.words-is,
          )
      | else-has_values b ↦ inl (sym c.has_values.ensures.values ∙ b.if-has_values.false, b.words-is)
    ])
