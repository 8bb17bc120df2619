-- The names that several proofs of this crate use, each from where it stands.
pub use Rattle.gw_base.specs.declared.address.Addr.{Addr}
pub use Rattle.hex.specs.Hex.{decode_of, encode_upper, hex_digit_value, IsBytes, pair_value, upper_digits, value_at, ◌>>=◌}
unfoldable pub use Rattle.hex.specs.Hex.{decode_pairs, encode_with}
pub use Rattle.rand_pcg.specs.Lcg.{Lcg}
pub use Rattle.route_filter.specs.Words.{at_most, cut_at, decoded, has_decimal_form, is_decimal, is_empty, number_up_to, octets_in, octets_of, words_of}
pub use Rattle.std.proofs.Math.Bool.{and-true, or-false, or-true}
pub use Rattle.std.proofs.Math.Seq.{drop-cons}
pub use Rattle.std.proofs.lemmas.Bool.{and_from, and_parts, cases_Bool, cases_lt, cond_both, eqb-true, le-leb, le-ltb, leb-true, lt-leb, ltb-false, ne_eqb, not-true, or_from, or_parts}
pub use Rattle.std.proofs.lemmas.Bool.Decides.{nat_tests}
pub use Rattle.std.proofs.lemmas.Fmt.{decimal-digits_value, decimal_digit, decimal_is_IsNumeral, first_decimal, length-decimal-le}
pub use Rattle.std.proofs.lemmas.Grind.{flat_map-append}
pub use Rattle.std.proofs.lemmas.List.{at_drop_all, flat_map_more, length-take, map-append, map_push, take_at, take_more}
pub use Rattle.std.proofs.lemmas.List.Concat.{flat_map_single}
pub use Rattle.std.proofs.lemmas.List.Folds.{flat_map-map, list_all-append, list_any-append}
pub use Rattle.std.proofs.lemmas.Option.{same_Some}
pub use Rattle.std.proofs.lemmas.Slice.Eq.{bytes_eq-Decides}
pub use Rattle.std.specs.Char.{digit_value, is_ascii_digit}
pub use Rattle.std.specs.Fmt.{decimal}
pub use Rattle.std.specs.List.{flat_map, list_all, list_any, onto_first, range_with_len, slice_split}
pub use Rattle.std.specs.Option.{ok_or, option_map_or, option_or}
pub use Rattle.std.specs.Str.{bytes_eq}
pub use Rattle.world_script.specs.Forms.{feed_form, form_in, gateway_form, is_later_in, is_setting, keyword_of, known, network_form, shared_form}
pub use Rattle.world_script.specs.Printing.{address_text, armed_text, fitted, gateway_text, hours_text, line_text, lines_text, mode_text, offset_text, pair_text, ReadsBack, version_text, words_text}
pub use Rattle.world_script.specs.Sample.{block_time, blocks, calm_round, commits, first_moment, record_octets, runs, sample_of, stopped_during, submitted, ticks, times, wild_round, words_of_block, writes}
unfoldable pub use Rattle.world_script.specs.Sample.{after_words, block, opening, packets_from, packets_of, seeded, stormy, wild_rounds, word}
pub use Rattle.world_script.specs.Saying.{arm_on, arm_said, behind_in, call_of, datagram_said, fail_on, fail_said, in_said, last_moment, limit_on, limit_said, offset_said, one_between, one_datagram, one_gateway, one_number, packet_said, read_or, read_then, redirect_on, redirect_said, redirect_to, rule_said, ruled, said_as, said_by, submit_said, word_said}
pub use Rattle.world_script.specs.Script.{contented, ended_by, is_action_line, is_end_line, is_rule_line, is_setting_line, keyed, most_text, onward, progress_of, reading_of, Refusal, script_after, script_in, ScriptValue, worded}
pub use Rattle.world_script.specs.Text.{is_blank, is_printable, lent_line, line_content, line_size, onto_line, raw_lines, RawLine}
pub use Rattle.world_script.specs.Values.{address_of, ip_of, mode_of, number_between, number_of, offset_of, records_of, signed, two_digits, two_octets, version_of}
pub use Rattle.world_script.specs.World.{after_line, are_settings_first, first_scene, has_gateway, has_node, has_running, is_stopped, Scene, takes, takes_all}
pub use Rattle.world_script.specs.declared.extent.Extent.{Extent}
pub use Rattle.world_script.specs.declared.fault.InputKind.{InputKind}
pub use Rattle.world_script.specs.declared.fault.InputKind.TheVariants.{Arity, NoEnd, TooLong}
pub use Rattle.world_script.specs.declared.keyword.Keyword.{Keyword}
pub use Rattle.world_script.specs.declared.kind.ScriptKind.{ScriptKind}
pub use Rattle.world_script.specs.declared.kind.ScriptKind.TheVariants.{Feed, Replay}
pub use Rattle.world_script.specs.declared.line.Line.{Line}
pub use Rattle.world_script.specs.declared.mode.Mode.{Mode}
pub use Rattle.world_script.specs.declared.progress.Progress.{Progress}
