-- That a node of any kind may go to another thread, which a drive asks of its nodes. No search finds it by itself, since a node has too many kinds.
use denote.Param.Send.{IsSend, arg_send, param_send, sendable}
use denote.Param.SendFields.{variants_send}
use Rattle.std.proofs.Crossing.{crosses}
use Rattle.snesl_data.proofs.Sends.{datum_sends, elements_sends}
use Rattle.flow_messages.proofs.Sends.{ty_sends, ty_shares, typed_sends}
use Rattle.flow_nodes.specs.contracts.stream_node.StreamNode as stream_node

-- each as it stands in a field, where a search comes to it
ruleset parts = (ty_sends, ty_shares, datum_sends, elements_sends, typed_sends, crosses, sendable)

-- the kinds in their order, each by the one field that it has
pub stream_node_sends : IsSend stream_node.the_row
stream_node_sends = variants_send stream_node.enum (
  (search parts depth 60 fits 20000, tt),
  (
    (search parts depth 60 fits 20000, tt),
    (
      (search parts depth 60 fits 20000, tt),
      (
        (search parts depth 60 fits 20000, tt),
        (
          (search parts depth 60 fits 20000, tt),
          (
            (search parts depth 60 fits 20000, tt),
            (
              (search parts depth 60 fits 20000, tt),
              (
                (search parts depth 60 fits 20000, tt),
                (
                  (search parts depth 60 fits 20000, tt),
                  (
                    (search parts depth 60 fits 20000, tt),
                    (
                      (search parts depth 60 fits 20000, tt),
                      (
                        (search parts depth 60 fits 20000, tt),
                        (
                          (search parts depth 60 fits 20000, tt),
                          (
                            (search parts depth 60 fits 20000, tt),
                            (
                              (search parts depth 60 fits 20000, tt),
                              (
                                (search parts depth 60 fits 20000, tt),
                                (
                                  (search parts depth 60 fits 20000, tt),
                                  (
                                    (search parts depth 60 fits 20000, tt),
                                    (
                                      (search parts depth 60 fits 20000, tt),
                                      (
                                        (search parts depth 60 fits 20000, tt),
                                        (
                                          (search parts depth 60 fits 20000, tt),
                                          (
                                            (search parts depth 60 fits 20000, tt),
                                            (
                                              (search parts depth 60 fits 20000, tt),
                                              (
                                                (search parts depth 60 fits 20000, tt),
                                                (
                                                  (search parts depth 60 fits 20000, tt),
                                                  ((search parts depth 60 fits 20000, tt), ((search parts depth 60 fits 20000, tt), tt)),
                                                ),
                                              ),
                                            ),
                                          ),
                                        ),
                                      ),
                                    ),
                                  ),
                                ),
                              ),
                            ),
                          ),
                        ),
                      ),
                    ),
                  ),
                ),
              ),
            ),
          ),
        ),
      ),
    ),
  ),
)

-- the same as a caller of a generic function is asked it
pub ruleset nodes_cross = (stream_node_sends, param_send, arg_send)
