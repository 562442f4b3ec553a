-- The laws of `format` that the writer's laws rest on.
pub use Rattle.format.specs.Laws.Lists.{all_get_d, blocks_more, flat_map_append, length_list, list_more, list_same, list_split}
pub use Rattle.format.specs.Laws.Word.Bytes.{bytes_three}
pub use Rattle.format.specs.Laws.Composed.Frames.{frame_length, group_length}
