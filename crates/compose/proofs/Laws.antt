-- The laws of other crates that composing cites, brought here and nowhere else.
pub use Rattle.format.specs.Laws.Composed.Length.{words_few, small}
pub use Rattle.format.specs.Laws.Legal.{Legal, legal_is, logged_sound, timely}
pub use Rattle.format.specs.Laws.Lists.{blocks_more, map_append, all_map, all_mapped, all_take, all_drop}
pub use Rattle.format.specs.Laws.Log.Forth.{log_forth}
pub use Rattle.format.proofs.Laws.ThereAndBack.{capture_length}
pub use Rattle.format.specs.Laws.Reader.Parts.{words_of, items_hold}
pub use Rattle.format.specs.Laws.Word.Bytes.{all_bytes}
pub use Rattle.format.specs.Laws.Word.Parts.{Holds}
pub use Rattle.log_words.proofs.Words.{words_parsed}
pub use Rattle.group_write.proofs.Frames.{group_count}
pub use Rattle.group_write.proofs.Words.{Written, bytes_count, written_length, written_none, written_part}
